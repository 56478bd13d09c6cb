-- In the body of an activity with a result nothing but the last statement, a `return`, ends it.
use Rattle.std.proofs.Common.{◌≡◌, arith, ℕ, zero, suc, Bool, true, false, not, ◌&&◌, ◌||◌, List}
use Rattle.std.proofs.Common.{[], ◌∷◌, ◌++◌, Contains, map, take, Some}
use Rattle.std.proofs.Common.{Option, None, refl, sym, ap, subst}
use Rattle.std.specs.Prelude.{is_none, is_some, length, slice_get, if◌then◌else◌}
use Rattle.std.specs.List.{list_all, list_any}
use Rattle.std.proofs.lemmas.Bool.{or_left, or_right}
use Rattle.bl_tree.proofs.Basics.{and_first, and_second}
use Rattle.bl_tree.specs.declared.place.Place.{Place}
use Rattle.bl_tree.specs.declared.scalar.Scalar.{Scalar as ScalarType}
use Rattle.bl_tree.specs.declared.tree.Arm.{Arm}
use Rattle.bl_tree.specs.declared.tree.Branch.{Branch}
use Rattle.bl_tree.specs.declared.tree.Expr.{Expr}
use Rattle.bl_tree.specs.declared.tree.Stmt.{Stmt, fold-roll-Stmt, out-Stmt}
use Rattle.bl_tree.specs.declared.tree.StmtKind.{StmtKind, fold-roll-StmtKind, out-StmtKind}
use Rattle.bl_tree.specs.declared.tree.StmtKind.TheOpen.{StmtKind-F}
use Rattle.bl_tree.specs.declared.tree.StructDef.{StructDef}
use Rattle.bl_tree.specs.declared.tree.Unit.{Unit as UnitDef}
use Rattle.bl_tree.specs.Apart.{is_apart}
use Rattle.bl_tree.specs.Depths.{is_shallow}
use Rattle.bl_tree.specs.Program.{names_of, parameters_of, roles_stand, unit_stands}
use Rattle.bl_tree.specs.Returns.{activity_returns, function_returns, is_return, is_return_kind, last_of, returns_last_alone, unit_returns}
use Rattle.bl_tree.specs.Types.{type_stands}
use Rattle.bl_tree.specs.Typing.{fits, is_activity, site_of}
use Rattle.bl_tree.specs.Words.{are_distinct, is_name}
use Rattle.bl_tree.proofs.StmtInduction.{stmt}
use Rattle.bl_graph_nodes.specs.Plain.{Act, Plain, Position, block_from, label_at, plain_body, plain_stmt}
use Rattle.bl_machine.specs.Uses.{Slots}
use Rattle.bl_machine_pass.specs.Transitions.{Change, Finishes, Transition, enter, rules, rules_in, rules_of}
use Rattle.bl_emit_spec_laws.specs.Registers.Laws.{ends_body}
use Rattle.bl_emit_spec_laws_nodes.specs.Points.Laws.{is_return_node}
use Rattle.bl_emit_spec_laws_nodes.specs.Points.Points.{BodiesEnd}
use Rattle.bl_emit_spec_laws.proofs.OnOwn.Endless.{made_is}
use Rattle.bl_emit_spec_laws.proofs.OnOwn.Quiet.{is_quiet, quiet_of}
use Rattle.bl_eval.proofs.UnitFits.{unit_at}
use Rattle.bl_ctree_laws_confluence.proofs.OnApart.Running.{layer_at}

-- ---- rules

-- a rule of a `return`, or one that doesn't end the body
abbrev is_fine : Transition → Bool
is_fine rule = is_return_node rule.node || is_quiet rule

abbrev Fine : List Transition → Type 0
Fine rules = list_all is_fine rules ≡ true

quiet_fine : (rules : List Transition) → list_all is_quiet rules ≡ true → Fine rules
quiet_fine [] h = refl
quiet_fine (rule ∷ rest) h = by (is_return_node rule.node) (is_quiet rule) h (quiet_fine rest)
  where
    by : (a b : Bool) → (b && list_all is_quiet rest) ≡ true → (list_all is_quiet rest ≡ true → Fine rest) →
        ((a || b) && list_all is_fine rest) ≡ true
    by true true h again = again h
    by false true h again = again h
    by a false h again = absurd (cc)

fine_both : (first rest : List Transition) → Fine first → Fine rest → Fine (first ++ rest)
fine_both [] rest h i = i
fine_both (rule ∷ first) rest h i = by (is_fine rule) h (fine_both first rest)
  where
    by : (b : Bool) → (b && list_all is_fine first) ≡ true → (Fine first → Fine rest → Fine (first ++ rest)) →
        (b && list_all is_fine (first ++ rest)) ≡ true
    by true h again = again h i
    by false h again = h

fine_at : (all : List Transition) (rule : Transition) → Fine all → Contains all rule → is_fine rule ≡ true
fine_at [] rule h there = let below = there.1 in absurd (omega arith)
fine_at (first ∷ all) rule h (zero, within, is) = subst (λ (x : Transition). is_fine x ≡ true) is (and_first (is_fine first) (list_all is_fine all) h)
fine_at (first ∷ all) rule h (suc k, within, is) = fine_at all rule (and_second (is_fine first) (list_all is_fine all) h) (k, omega arith, is)

-- ---- the last statement

plain_return : (place : Place) (e : Option Expr) (at : Position) → plain_stmt (stmt place (StmtKind-F.Return e)) at
    ≡ Act (label_at at) (stmt place (StmtKind-F.Return e))
plain_return place e at = rw (fold-roll-Stmt, fold-roll-StmtKind) refl

return_fine : (slots : Slots) (place : Place) (e : Option Expr) (at : Position) (next : Change) →
    Fine (rules_of slots (plain_stmt (stmt place (StmtKind-F.Return e)) at) next)
return_fine slots place e at next =
    subst (λ (s : Plain). Fine (rules_of slots s next)) (sym (plain_return place e at))
    (ap (λ layer. (is_return_kind layer || (not (ends_body next || false) && true)) && true) (layer_at place (StmtKind-F.Return e)))

last_fine : (slots : Slots) (s : Stmt) (at : Position) (next : Change) → is_return s ≡ true → Fine (rules_of slots (plain_stmt s at) next)
last_fine slots s at next h =
    subst (λ s. Fine (rules_of slots (plain_stmt s at) next)) (made_is s) (by (out-StmtKind (out-Stmt s).what) h)
  where
    place : Place
    place = (out-Stmt s).place

    by : (layer : StmtKind-F StmtKind Arm Branch Stmt) → is_return_kind layer ≡ true → Fine (rules_of slots (plain_stmt (stmt place layer) at) next)
    by (StmtKind-F.Return e) h = return_fine slots place e at next
    by (StmtKind-F.Declare k initial) h = absurd (cc)
    by (StmtKind-F.Assign path e) h = absurd (cc)
    by (StmtKind-F.Call f inputs outputs) h = absurd (cc)
    by (StmtKind-F.Await e) h = absurd (cc)
    by (StmtKind-F.Run target a inputs outputs) h = absurd (cc)
    by (StmtKind-F.If arms other) h = absurd (cc)
    by (StmtKind-F.Cobegin branches) h = absurd (cc)
    by (StmtKind-F.When guard e body) h = absurd (cc)
    by (StmtKind-F.Repeat body) h = absurd (cc)
    by (StmtKind-F.Until body e) h = absurd (cc)
    by (StmtKind-F.While e body) h = absurd (cc)

-- the rules of a body whose last statement is a `return`
body_fine : (slots : Slots) (body : List Stmt) (k : ℕ) (block : Position) → last_of (map is_return body) ≡ true →
    Fine (rules_in slots (block_from (map plain_stmt body) k block) Finishes)
body_fine slots [] k block h = absurd (cc)
body_fine slots (s ∷ []) k block h =
    fine_both (rules_of slots (plain_stmt s (block ++ k ∷ [])) Finishes) [] (last_fine slots s (block ++ k ∷ []) Finishes h) refl
body_fine slots (s ∷ t ∷ rest) k block h =
    let more = block_from (map plain_stmt (t ∷ rest)) (suc k) block in
    let first = rules_of slots (plain_stmt s (block ++ k ∷ [])) (enter more Finishes) in
    fine_both first (rules_in slots more Finishes)
    (quiet_fine first (quiet_of slots (plain_stmt s (block ++ k ∷ [])) (enter more Finishes) refl).all) (body_fine slots (t ∷ rest) (suc k) block h)

-- ---- units

unit_returned : (structs : List StructDef) (earlier : List UnitDef) (unit : UnitDef) → unit_stands structs earlier unit ≡ true →
    unit_returns unit ≡ true
unit_returned structs earlier unit stands =
    let last : Bool = unit_returns unit && (is_shallow 200 unit.body && list_all is_apart unit.body) in
    let fitted : Bool = list_all (fits (site_of structs earlier unit)) unit.body in
    let typed : Bool = list_all (λ var. type_stands (length structs) var.ty) unit.vars in
    let named : Bool = roles_stand unit && (list_all is_name (names_of unit.vars) && are_distinct (names_of (parameters_of unit))) in
    and_first (unit_returns unit) (is_shallow 200 unit.body && list_all is_apart unit.body)
    (and_second fitted last (and_second typed (fitted && last) (and_second named (typed && (fitted && last)) stands)))

last_returns : (unit : UnitDef) → is_activity unit.kind ≡ true → is_some unit.result ≡ true → unit_returns unit ≡ true →
    last_of (map is_return unit.body) ≡ true
last_returns unit active one all = by_kind (is_activity unit.kind) active all
  where
    by_result : (o : Option ScalarType) (b : Bool) → is_some o ≡ true → (is_none o || b) ≡ true → b ≡ true
    by_result None b one h = absurd (cc)
    by_result (Some s) b one h = h

    by_kind : (activity : Bool) → activity ≡ true → (if activity then activity_returns unit else function_returns unit) ≡ true →
        last_of (map is_return unit.body) ≡ true
    by_kind true is all =
        by_result unit.result (last_of (map is_return unit.body)) one
        (and_second (returns_last_alone unit.body) (is_none unit.result || last_of (map is_return unit.body)) all)
    by_kind false is all = absurd (cc)

ended : (rule : Transition) → is_fine rule ≡ true → (list_any ends_body rule.on_true || list_any ends_body rule.on_false) ≡ true →
    is_return_node rule.node ≡ true
ended rule fine ends = by (is_return_node rule.node) (list_any ends_body rule.on_true) (list_any ends_body rule.on_false) fine ends
  where
    by : (a b c : Bool) → (a || (not b && not c)) ≡ true → (b || c) ≡ true → a ≡ true
    by true b c fine ends = refl
    by false true c fine ends = fine
    by false false true fine ends = fine
    by false false false fine ends = ends

pub bodies_end : (structs : List StructDef) (units : List UnitDef) (entry : ℕ) → BodiesEnd structs units entry
bodies_end structs units entry activities keeps = record {
  on_true = λ k unit rule there active one has ends.
      ended rule (fine k unit rule there active one has)
      (or_left (list_any ends_body rule.on_true) (list_any ends_body rule.on_false) ends);
  on_false = λ k unit rule there active one has ends.
      ended rule (fine k unit rule there active one has)
      (or_right (list_any ends_body rule.on_true) (list_any ends_body rule.on_false) ends);
}
  where
    fine : (k : ℕ) (unit : UnitDef) (rule : Transition) → slice_get units k ≡ Some unit → is_activity unit.kind ≡ true →
        is_some unit.result ≡ true →
        Contains (rules (activities k).slots (plain_body unit.body)) rule → is_fine rule ≡ true
    fine k unit rule there active one has =
        fine_at (rules (activities k).slots (plain_body unit.body)) rule
        (body_fine (activities k).slots unit.body 0 []
        (last_returns unit active one (unit_returned structs (take k units) unit (unit_at structs [] units k unit keeps.units_stand there)))) has
