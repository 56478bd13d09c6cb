-- What is made of a unit in which nothing fails names what is declared before.
use Rattle.std.proofs.Common.{◌≡◌, ◌≤◌, true, ◌&&◌, ◌||◌, List, [], ◌++◌, length, map, take, drop, Some, refl}
use Rattle.std.proofs.Common.{ap, sym, ◌∙◌, arith}
use Rattle.std.specs.Prelude.{Bool, is_some, nat_le, option_and_then}
use Rattle.std.specs.List.{list_all}
use Rattle.std.proofs.lemmas.Bool.{leb-true}
use Rattle.std.proofs.lemmas.List.{append-nil, length-take-le}
use Rattle.bl_tree.specs.declared.scalar.Scalar.{Scalar as ScalarType}
use Rattle.bl_tree.specs.declared.tree.Stmt.{Stmt}
use Rattle.bl_tree.specs.Program.{is_input, is_output}
use Rattle.bl_tree.specs.Typing.{is_fixed, is_variable}
use Rattle.std.specs.Prelude.{Option}
use Rattle.bl_tree.proofs.Basics.{and_first, and_second, first_empty, second_empty}
use Rattle.bl_eval.proofs.OperatorFits.{some_found, where_holds}
use Rattle.bl_names_tree.specs.declared.item.NamedConstant.{NamedConstant}
use Rattle.bl_names_tree.specs.declared.item.NamedUnit.{NamedUnit}
use Rattle.bl_names_tree.specs.declared.item.NamedVar.{NamedVar}
use Rattle.bl_names_tree.specs.Placed.{DeclaredBefore, behind_unit, head_placed, holds_if, in_turn, parameters, roles_placed, stmt_step, type_placed, unit_step}
use Rattle.bl_names_tree.specs.Placed.{var_placed, with_parameters}
use Rattle.bl_types.specs.declared.environment.Environment.{Environment}
use Rattle.bl_types.specs.Declarations.{Declaring, after_parameters}
use Rattle.bl_types.specs.Returns.{return_failures}
use Rattle.bl_types.specs.Statements.{Block, walked_block}
use Rattle.bl_types.specs.Units.{after_head, after_unit, entered, result_of}
use Rattle.bl_machine_prevs_laws.specs.Names.Declared.{body_declared}
use Rattle.bl_machine_prevs_laws.specs.Names.Scoped.{first_ones}
use Rattle.bl_types_laws.specs.Standing.{Around, BetweenUnits, Known, stmt_named, unit_named}
use Rattle.bl_types_laws.specs.Within.{known_in}
use Rattle.bl_types_laws.proofs.Heads.{ParametersPassed, head_passes, typed_parameters}
use Rattle.bl_types_laws.proofs.Standing.{made_of}
use Rattle.bl_machine_prevs_laws.specs.Types.Declared.{unit_declared}
use Rattle.bl_machine_prevs_laws.proofs.OnTypes.Statements.{block_kept}
use Rattle.bl_types_laws.proofs.Units.{entered_known}

-- what is known after the head of a unit
record HeadKnown (unit : NamedUnit) (env head : Environment) : Type 0 where
  pub known : Known head
  pub counts_are : known_in head ≡ with_parameters (known_in env) unit
  pub structs : head.structs ≡ env.structs
  pub units : head.units ≡ env.units
  pub kind : head.kind ≡ unit.kind

head_by : (unit : NamedUnit) (env inside : Environment) (result : Option ScalarType) → parameters unit ≤ length unit.vars →
    ParametersPassed (entered unit env) (length (take (parameters unit) unit.vars)) inside → HeadKnown unit env (record inside { result = result })
head_by unit env inside result enough passed =
    let count : length inside.vars ≡ parameters unit = omega (arith, passed.longer, length-take-le (parameters unit) unit.vars enough) in
    record {
      known = record { vars = passed.known.vars; fields = passed.known.fields; constants = passed.known.constants };
      counts_are = λ i. record {
        structs = length (passed.grown.structs i);
        constants = length (passed.same_constants i);
        units = length (passed.grown.units i);
        variables = count i;
      };
      structs = passed.grown.structs;
      units = passed.grown.units;
      kind = passed.grown.kind;
    }

unit_head : (unit : NamedUnit) (env : Environment) → Known env → roles_placed unit ≡ true →
    list_all (λ (var : NamedVar). is_some var.ty) (take (parameters unit) unit.vars) ≡ true →
    list_all (var_placed (known_in env)) (take (parameters unit) unit.vars) ≡ true → (after_head unit env).failures ≡ [] →
    HeadKnown unit env (after_head unit env).env
unit_head unit env known roles typed placed none =
    let enough : Bool = nat_le (parameters unit) (length unit.vars) in
    let inputs : Bool = list_all (λ (var : NamedVar). is_input var.role) (take unit.inputs unit.vars) in
    let outputs : Bool = list_all (λ (var : NamedVar). is_output var.role) (take unit.outputs (drop unit.inputs unit.vars)) in
    let locals : Bool = list_all (λ (var : NamedVar). is_variable var.role || is_fixed var.role) (drop (parameters unit) unit.vars) in
    let behind : (inputs && (outputs && locals)) ≡ true = and_second enough (inputs && (outputs && locals)) roles in
    let last : (outputs && locals) ≡ true = and_second inputs (outputs && locals) behind in
    let inside : Environment = (after_parameters unit.vars (entered unit env)).env in
    head_by unit env inside (result_of inside unit.name.place unit.result).result
    (leb-true (parameters unit) (length unit.vars) (and_first enough (inputs && (outputs && locals)) roles))
    (head_passes unit.vars (parameters unit) (known_in env) (entered unit env) refl (entered_known unit env known)
    (typed_parameters unit.vars unit.inputs unit.outputs (and_first inputs (outputs && locals) behind) (and_first outputs locals last) typed)
    placed (and_second outputs locals last) (first_empty (after_parameters unit.vars (entered unit env)).failures
    (result_of inside unit.name.place unit.result).failures none))

around_head : (unit : NamedUnit) (env head : Environment) → BetweenUnits env → HeadKnown unit env head →
    Around head (record { structs = env.structs; earlier = env.units; kind = unit.kind; vars = []; result = head.result })
around_head unit env head between passed = record {
  later = [];
  structs = sym passed.structs ∙ sym (append-nil head.structs);
  units = passed.units;
  kind = passed.kind;
  result = refl;
  heads = between.heads;
}

pub unit_kept : (constants : List NamedConstant) (unit : NamedUnit) (env : Environment) → BetweenUnits env →
    unit_named constants env.units unit ≡ true → (counts : DeclaredBefore) → unit_step constants unit (known_in env) ≡ Some counts →
    (after_unit constants unit env).failures ≡ [] → body_declared unit ≡ true → unit_declared (made_of constants unit env) ≡ true
unit_kept constants unit env between named counts step none declared =
    let typed = list_all (λ (var : NamedVar). is_some var.ty) (take (parameters unit) unit.vars) in
    let stmts = list_all (stmt_named constants unit.vars env.units) unit.body in
    let placed = list_all (var_placed (known_in env)) (take (parameters unit) unit.vars) in
    let result = holds_if (type_placed (known_in env)) unit.result in
    let steps = in_turn (map (stmt_step unit.vars constants) unit.body) in
    let holds = where_holds (head_placed (known_in env) unit) (option_and_then (behind_unit unit) (steps (with_parameters (known_in env) unit)))
    counts step in
    let found = some_found (behind_unit unit) (steps (with_parameters (known_in env) unit)) counts holds.1 in
    let head : Declaring = after_head unit env in
    let body : Block Stmt = walked_block constants unit.vars unit.body head.env in
    let passed = unit_head unit env between.known (and_first (roles_placed unit) (placed && result) holds.0) (and_first typed stmts named)
    (and_first placed result (and_second (roles_placed unit) (placed && result) holds.0))
    (first_empty head.failures (body.failures ++ return_failures unit) none) in
    block_kept constants unit.vars (record { structs = env.structs; earlier = env.units; kind = unit.kind; vars = []; result = head.env.result })
    unit.body
    (and_second typed stmts named) head.env (around_head unit env head.env between passed) passed.known found.0
    (ap steps passed.counts_are ∙ found.1)
    (first_empty body.failures (return_failures unit) (second_empty head.failures (body.failures ++ return_failures unit) none)) (first_ones
    (parameters unit))
    declared
