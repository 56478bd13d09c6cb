-- The laws of a whole program.
use Rattle.std.proofs.Common.{◌≡◌, ℕ, ◌≤◌, Bool, true, ◌&&◌, List, [], ◌∷◌, map, take, length, sym, subst, arith}
use Rattle.std.proofs.lemmas.Bool.Decides.{nat_tests}
use Rattle.std.specs.List.{list_all}
use Rattle.std.specs.Prelude.{nat_le}
use Rattle.bl_tree.proofs.Basics.{and_first, and_second}
use Rattle.bl_tree.specs.declared.tree.StructDef.{StructDef}
use Rattle.bl_tree.specs.declared.tree.Unit.{Unit as UnitDef}
use Rattle.bl_tree.specs.declared.tree.Var.{Var}
use Rattle.bl_tree.specs.Apart.{is_apart}
use Rattle.bl_tree.specs.Depths.{block, depth_of, is_shallow, of_all}
use Rattle.bl_tree.specs.Program.{names_of, parameters_of, roles_stand}
use Rattle.bl_tree.specs.Returns.{unit_returns}
use Rattle.bl_tree.specs.Types.{type_stands}
use Rattle.bl_tree.specs.Typing.{TypingContext, fits, site_of}
use Rattle.bl_tree.specs.Words as words
use Rattle.bl_tree.specs.Words.{are_distinct}
use Rattle.bl_graph_nodes.specs.Nodes.{nodes_in}
use Rattle.bl_machine_pass.specs.Transitions.{Finishes}
use Rattle.bl_emit_acts_laws_wellformed.proofs.OnFormed.Units.{body_stands, unit_at}
use Rattle.bl_emit_spec.specs.Activities.{activity_view, body_of, callees_in, rules_at}
use Rattle.bl_emit_spec_laws_wellformed.specs.Nodes.{NodesStand, RulesFit, nodes_fit}
use Rattle.bl_emit_spec_laws_wellformed.proofs.OnNodes.Nodes.{body-fine}
use Rattle.bl_emit_spec_laws_wellformed.proofs.OnNodes.Rules.{both-fit, of_block}
use Rattle.bl_eval.proofs.UnitFits.{all_listed}

pub stand : (structs : List StructDef) (units : List UnitDef) (entry : ℕ) → NodesStand structs units entry
stand structs units entry k unit keeps there =
    let site : TypingContext = site_of structs (take k units) unit in
    let types : Bool = list_all (λ (var : Var). type_stands (length structs) var.ty) unit.vars in
    let fitted : Bool = list_all (fits site) unit.body in
    let deep : Bool = is_shallow 200 unit.body in
    let apart : Bool = list_all is_apart unit.body in
    let heads : Bool = roles_stand unit && (list_all words.is_name (names_of unit.vars) && are_distinct (names_of (parameters_of unit))) in
    let all : (heads && (types && (fitted && (unit_returns unit && (deep && apart))))) ≡ true = unit_at structs units entry keeps k unit there in
    let shallow : deep ≡ true =
    and_first deep apart (and_second (unit_returns unit) (deep && apart) (and_second fitted (unit_returns unit && (deep && apart))
    (and_second types (fitted && (unit_returns unit && (deep && apart)))
    (and_second heads (types && (fitted && (unit_returns unit && (deep && apart)))) all)))) in
    let b : nat_le (of_all (map depth_of unit.body)).exprs 200 ≡ true =
    and_second (nat_le (block 0 (map depth_of unit.body)).blocks 200) _ shallow in
    let few : (of_all (map depth_of unit.body)).exprs ≤ 200 = grind (arith, nat_tests, b) in
    body-fine site unit.body (all_listed (fits site) unit.body (body_stands structs units entry keeps k unit there)) few

pub fit : (structs : List StructDef) (units : List UnitDef) (entry : ℕ) → NodesStand structs units entry → RulesFit structs units entry
fit structs units entry stands k a keeps same earlier there rules =
    both-fit a.sizes (activity_view a).site (callees_in (body_of a)) (rules_at a) rules
    (subst (λ nodes. nodes_fit (activity_view a).site (callees_in (body_of a)) nodes ≡ true) (sym (of_block a.slots (body_of a) Finishes))
    (subst (λ (structs : List StructDef). nodes_fit (site_of structs a.earlier a.unit) (callees_in (body_of a)) (nodes_in (body_of a)) ≡ true)
    (sym same)
    (subst (λ (earlier : List UnitDef). nodes_fit (site_of structs earlier a.unit) (callees_in (body_of a)) (nodes_in (body_of a)) ≡ true)
    (sym earlier)
    (stands k a.unit keeps there))))
