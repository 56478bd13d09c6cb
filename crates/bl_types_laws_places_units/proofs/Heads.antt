-- What is known after the head of a unit, and after the unit.
use Rattle.std.proofs.Common.{◌≡◌, ℕ, suc, ◌+◌, List, [], ◌∷◌, ◌++◌, map, length, take, drop, Some, None, arith, refl, ap, sym, ◌∙◌}
use Rattle.std.specs.Prelude.{Bool, true, false, ◌&&◌, nat_eq, nat_le, option_and_then, option_map, if◌then◌else◌}
use Rattle.std.specs.List.{list_all}
use Rattle.std.proofs.Math.Seq.{take-add}
use Rattle.std.proofs.lemmas.Bool.{leb-true}
use Rattle.std.proofs.lemmas.List.{length-append, length-take-le, take-append-drop}
use Rattle.std.proofs.lemmas.List.Folds.{list_all-append}
use Rattle.std.proofs.lemmas.Option.{same_Some}
use Rattle.std.proofs.lemmas.Bool.{and_from}
use Rattle.bl_tree.proofs.Basics.{all_weaker, and_first, and_second, none_plus, plus_none}
use Rattle.bl_tree.specs.declared.tree.Stmt.{Stmt}
use Rattle.bl_tree.specs.Program.{is_input, is_output}
use Rattle.bl_eval.proofs.OperatorFits.{some_found, where_holds}
use Rattle.bl_names_tree.specs.declared.item.NamedConstant.{NamedConstant}
use Rattle.bl_names_tree.specs.declared.item.NamedUnit.{NamedUnit}
use Rattle.bl_names_tree.specs.declared.item.NamedVar.{NamedVar}
use Rattle.bl_names_tree.specs.Placed.{DeclaredBefore, behind_unit, head_placed, holds_if, in_turn, parameters, roles_placed, stmt_step, type_placed, unit_step}
use Rattle.bl_names_tree.specs.Placed.{var_placed, with_parameters}
use Rattle.bl_types.specs.declared.environment.Constant.{Constant}
use Rattle.bl_types.specs.declared.environment.Environment.{Environment}
use Rattle.bl_types.specs.Declarations.{after_parameter, after_parameters, after_variable, is_parameter, unchanged}
use Rattle.bl_types.specs.Statements.{Block, walked_block}
use Rattle.bl_types.specs.Units.{after_head, after_unit, entered, environment_after, unit_of}
use Rattle.bl_types.specs.Written.{written_type}
use Rattle.bl_types_laws.specs.Standing.{Grown}
use Rattle.bl_types_laws.specs.Within.{known_in}
use Rattle.bl_types_laws.proofs.Declared.{variable_grown}
use Rattle.bl_types_laws.proofs.Heads.{is_local, locals_pass, parameter_is, parameters_append}
use Rattle.bl_types_laws.proofs.Walks.{grown_further, grown_self}
use Rattle.bl_types_laws_places_units.proofs.Grows.{bodies_grow}
use Rattle.bl_types_laws.proofs.Heads.{input_role, output_role}

-- ---- parameters

-- parameters are known as variables, and nothing else is
pub record ParametersGrow (before after : Environment) : Type 0 where
  pub grown : Grown before after
  pub constants : after.constants ≡ before.constants

parameter_grows : (var : NamedVar) (env : Environment) → ParametersGrow env (after_parameter var env).env
parameter_grows var env = by_test (is_parameter var.role)
  where
    by_test : (test : Bool) → ParametersGrow env (if test then after_variable var env else unchanged env).env
    by_test true = record { grown = variable_grown env var (option_map (written_type env.constants) var.ty); constants = refl }
    by_test false = record { grown = grown_self env; constants = refl }

pub parameters_grow : (vars : List NamedVar) (env : Environment) → ParametersGrow env (after_parameters vars env).env
parameters_grow [] env = record { grown = grown_self env; constants = refl }
parameters_grow (var ∷ rest) env =
    let first : Environment = (after_parameter var env).env in
    let one = parameter_grows var env in
    let more = parameters_grow rest first in
    record {
      grown = grown_further env first (after_parameters rest first).env one.grown more.grown;
      constants = more.constants ∙ one.constants;
    }

abbrev is_taken : NamedVar → Bool
is_taken var = is_parameter var.role

one_longer : (a b c n : ℕ) → b ≡ a + 1 → c ≡ b + n → c ≡ a + suc n
one_longer a b c n one two = omega arith

-- each of parameters alone is known
parameters_counted : (vars : List NamedVar) (env : Environment) → list_all is_taken vars ≡ true →
    length (after_parameters vars env).env.vars ≡ length env.vars + length vars
parameters_counted [] env all = plus_none (length env.vars)
parameters_counted (var ∷ rest) env all =
    let first : Environment = (after_parameter var env).env in
    let one : length first.vars ≡ length env.vars + 1 =
    ap (λ (env : Environment). length env.vars) (parameter_is var env (and_first (is_taken var) (list_all is_taken rest) all))
    ∙ length-append env.vars _ in
    one_longer (length env.vars) (length first.vars) (length (after_parameters rest first).env.vars) (length rest) one
    (parameters_counted rest first (and_second (is_taken var) (list_all is_taken rest) all))

-- where variables are ordered by role, so many parameters are known
all_counted : (unit : NamedUnit) (env : Environment) → roles_placed unit ≡ true →
    length (after_parameters unit.vars (entered unit env)).env.vars ≡ parameters unit
all_counted unit env roles =
    let vars : List NamedVar = unit.vars in
    let n : ℕ = parameters unit in
    let enough : Bool = nat_le n (length vars) in
    let inputs : Bool = list_all (λ (var : NamedVar). is_input var.role) (take unit.inputs vars) in
    let outputs : Bool = list_all (λ (var : NamedVar). is_output var.role) (take unit.outputs (drop unit.inputs vars)) in
    let locals : Bool = list_all is_local (drop n vars) in
    let behind : (inputs && (outputs && locals)) ≡ true = and_second enough (inputs && (outputs && locals)) roles in
    let last : (outputs && locals) ≡ true = and_second inputs (outputs && locals) behind in
    let taken_inputs : list_all is_taken (take unit.inputs vars) ≡ true =
    all_weaker (λ (var : NamedVar). is_input var.role) is_taken (λ var. input_role var.role) (take unit.inputs vars)
    (and_first inputs (outputs && locals) behind) in
    let taken_outputs : list_all is_taken (take unit.outputs (drop unit.inputs vars)) ≡ true =
    all_weaker (λ (var : NamedVar). is_output var.role) is_taken (λ var. output_role var.role) (take unit.outputs (drop unit.inputs vars))
    (and_first outputs locals last) in
    let all : list_all is_taken (take n vars) ≡ true =
    ap (list_all is_taken) (take-add unit.inputs unit.outputs vars)
    ∙ list_all-append is_taken (take unit.inputs vars) (take unit.outputs (drop unit.inputs vars))
    ∙ and_from (list_all is_taken (take unit.inputs vars)) (list_all is_taken (take unit.outputs (drop unit.inputs vars))) taken_inputs taken_outputs in
    let inside : Environment = (after_parameters (take n vars) (entered unit env)).env in
    let is : (after_parameters vars (entered unit env)).env ≡ inside =
    ap (λ vars. (after_parameters vars (entered unit env)).env) (sym (take-append-drop n vars))
    ∙ parameters_append (take n vars) (drop n vars) (entered unit env) ∙ locals_pass (drop n vars) inside (and_second outputs locals last) in
    ap (λ (env : Environment). length env.vars) is ∙ parameters_counted (take n vars) (entered unit env) all ∙ none_plus (length (take n vars))
    ∙ length-take-le n vars (leb-true n (length vars) (and_first enough (inputs && (outputs && locals)) roles))

-- ---- the head

-- what is known after the head of a unit
pub record HeadKnown (unit : NamedUnit) (env head : Environment) : Type 0 where
  pub structs : head.structs ≡ env.structs
  pub constants : head.constants ≡ env.constants
  pub units : head.units ≡ env.units
  pub kind : head.kind ≡ unit.kind
  pub counts_are : roles_placed unit ≡ true → known_in head ≡ with_parameters (known_in env) unit

pub head_known : (unit : NamedUnit) (env : Environment) → HeadKnown unit env (after_head unit env).env
head_known unit env =
    let grows = parameters_grow unit.vars (entered unit env) in
    record {
      structs = grows.grown.structs;
      constants = grows.constants;
      units = grows.grown.units;
      kind = grows.grown.kind;
      counts_are = λ roles i. record {
        structs = length (grows.grown.structs i);
        constants = length (grows.constants i);
        units = length (grows.grown.units i);
        variables = all_counted unit env roles i;
      };
    }

-- ---- units

-- what is known after a unit: its constants and itself
pub record UnitKnown (all_constants : List NamedConstant) (unit : NamedUnit) (env after : Environment) : Type 0 where
  pub structs : after.structs ≡ env.structs
  pub more : List Constant
  pub constants : after.constants ≡ env.constants ++ more
  pub body : Environment
  pub made : List Stmt
  pub is_after : after ≡ environment_after unit made body
  pub units : after.units ≡ env.units ++ unit_of unit made body ∷ []
  pub result : after.result ≡ None
  pub counts_are : (counts : DeclaredBefore) → unit_step all_constants unit (known_in env) ≡ Some counts → known_in after ≡ counts

-- the parts of the test that a unit is in place
pub record UnitPlaced (constants : List NamedConstant) (unit : NamedUnit) (earlier counts : DeclaredBefore) : Type 0 where
  pub roles : roles_placed unit ≡ true
  pub inner : DeclaredBefore
  pub body : in_turn (map (stmt_step unit.vars constants) unit.body) (with_parameters earlier unit) ≡ Some inner
  pub behind : record inner { units = inner.units + 1; variables = 0 } ≡ counts

pub unit_placed : (constants : List NamedConstant) (unit : NamedUnit) (earlier counts : DeclaredBefore) →
    unit_step constants unit earlier ≡ Some counts → UnitPlaced constants unit earlier counts
unit_placed constants unit earlier counts step =
    let body = in_turn (map (stmt_step unit.vars constants) unit.body) (with_parameters earlier unit) in
    let holds = where_holds (head_placed earlier unit) (option_and_then (behind_unit unit) body) counts step in
    let found = some_found (behind_unit unit) body counts holds.1 in
    let last = where_holds (nat_eq found.0.variables (length unit.vars)) (Some (record found.0 { units = found.0.units + 1; variables = 0 })) counts
    found.2 in
    record {
      roles =
          and_first (roles_placed unit)
          (list_all (var_placed earlier) (take (parameters unit) unit.vars) && holds_if (type_placed earlier) unit.result) holds.0;
      inner = found.0;
      body = found.1;
      behind = same_Some (record found.0 { units = found.0.units + 1; variables = 0 }) counts last.1;
    }

left_counts : (unit : NamedUnit) (made : List Stmt) (body : Environment) (inner counts : DeclaredBefore) → known_in body ≡ inner →
    record inner { units = inner.units + 1; variables = 0 } ≡ counts → known_in (environment_after unit made body) ≡ counts
left_counts unit made body inner counts is are =
    ap (λ n. record { structs = length body.structs; constants = length body.constants; units = n; variables = 0 })
    (length-append body.units (unit_of unit made body ∷ []))
    ∙ ap (λ (inner : DeclaredBefore). record inner { units = inner.units + 1; variables = 0 }) is ∙ are

pub unit_known : (constants : List NamedConstant) (unit : NamedUnit) (env : Environment) →
    UnitKnown constants unit env (after_unit constants unit env).env
unit_known constants unit env =
    let head : Environment = (after_head unit env).env in
    let known = head_known unit env in
    let body : Block Stmt = walked_block constants unit.vars unit.body head in
    let grows = bodies_grow constants unit.vars unit.body head in
    record {
      structs = grows.grown.structs ∙ known.structs;
      more = grows.grown.constants;
      constants = grows.grown.has_constants ∙ ap (λ xs. xs ++ grows.grown.constants) known.constants;
      body = body.env;
      made = body.made;
      is_after = refl;
      units = ap (λ xs. xs ++ unit_of unit body.made body.env ∷ []) (grows.grown.units ∙ known.units);
      result = refl;
      counts_are = λ counts step.
          let placed = unit_placed constants unit (known_in env) counts step in
          left_counts unit body.made body.env placed.inner counts
          (grows.counts_are placed.inner
          (ap (in_turn (map (stmt_step unit.vars constants) unit.body)) (known.counts_are placed.roles) ∙ placed.body))
          placed.behind;
    }
