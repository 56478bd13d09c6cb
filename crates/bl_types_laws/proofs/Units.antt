-- What is made of a unit fits.
use Rattle.std.proofs.Common.{◌≡◌, ℕ, ◌+◌, ◌≤◌, List, [], ◌∷◌, ◌++◌, length, map, take, drop, Option, Some, None, refl, ap, sym, subst, ◌∙◌, arith}
use Rattle.std.specs.Prelude.{is_none, Bool, true, false, ◌&&◌, ◌||◌, is_some, nat_eq, nat_le, option_and_then, slice_get}
use Rattle.std.specs.List.{list_all}
use Rattle.std.proofs.lemmas.Bool.{eqb-true, le-leb, leb-true}
use Rattle.std.proofs.lemmas.List.{length-append, length-take-le}
use Rattle.std.proofs.lemmas.List.Folds.{list_all-append}
use Rattle.std.proofs.lemmas.Option.{same_Some}
use Rattle.std.proofs.lemmas.Bool.{and_from}
use Rattle.bl_tree.proofs.Basics.{all_of_each, all_weaker, and_first, and_second, first_empty, second_empty}
use Rattle.bl_tree.specs.declared.scalar.Scalar.{Scalar as ScalarType}
use Rattle.bl_tree.specs.declared.tree.Stmt.{Stmt}
use Rattle.bl_tree.specs.declared.tree.StructDef.{StructDef}
use Rattle.bl_tree.specs.declared.tree.Unit.{Unit as UnitDef}
use Rattle.bl_tree.specs.Program.{is_input, is_output}
use Rattle.bl_tree.specs.declared.tree.Var.{Var}
use Rattle.bl_tree.specs.Types.{type_stands}
use Rattle.bl_tree.specs.Reduce.{all_of}
use Rattle.bl_tree.specs.Typing.{is_activity, TypingContext, fits, is_fixed, is_variable, site_of}
use Rattle.bl_eval.proofs.OperatorFits.{some_found, where_holds}
use Rattle.bl_names_tree.specs.declared.item.NamedConstant.{NamedConstant}
use Rattle.bl_names_tree.specs.declared.item.NamedUnit.{NamedUnit}
use Rattle.bl_names_tree.specs.declared.item.NamedVar.{NamedVar}
use Rattle.bl_names_tree.specs.Placed.{DeclaredBefore, behind_unit, head_placed, holds_if, in_turn, parameters, roles_placed, stmt_step, type_placed, unit_step}
use Rattle.bl_names_tree.specs.Placed.{var_placed, with_parameters}
use Rattle.bl_types.specs.declared.environment.Environment.{Environment}
use Rattle.bl_types.specs.declared.environment.Variable.{Variable}
use Rattle.bl_tree.specs.declared.place.Place.{Place}
use Rattle.bl_names_tree.specs.declared.types.NamedType.{NamedType}
use Rattle.bl_types.specs.Declarations.{is_parameter, Declaring, after_parameters}
use Rattle.bl_types.specs.Returns.{return_failures}
use Rattle.bl_types.specs.Statements.{Block, walked_block}
use Rattle.bl_types.specs.Units.{can_be_driven, after_head, after_unit, entered, environment_after, result_of, unit_of, vars_of}
use Rattle.bl_types_laws.specs.Standing.{Around, BetweenUnits, BlockPassed, Known, UnitPassed, VariablesThere, stmt_named, unit_named}
use Rattle.bl_types_laws.specs.Within.{has_parameters, known_in}
use Rattle.bl_types_laws.specs.inner.Named.{VariablesNamed}
use Rattle.bl_types_laws.proofs.Blocks.{statements_fit}
use Rattle.bl_types_laws.proofs.Heads.{is_typed_parameter, ParametersPassed, head_passes, length-vars_of, typed_parameters}
use Rattle.bl_types_laws.proofs.Roles.{entry_made, head_named, roles_made, same_names, same_roles}
use Rattle.bl_types_laws.proofs.Turns.{bodies_turn}
use Rattle.bl_types_laws.proofs.TypesStand.{stands_more, vars_stand}
use Rattle.bl_types_laws.proofs.UnitReturns.{unit_made_returns}
use Rattle.bl_types_laws.proofs.Walks.{there_in}

all_listed : {X : Type 0} (test : X → Bool) (xs : List X) → all_of (map test xs) ≡ true → list_all test xs ≡ true
all_listed test [] all = refl
all_listed test (x ∷ xs) all = and_from (test x) (list_all test xs) (and_first (test x) (all_of (map test xs)) all)
    (all_listed test xs (and_second (test x) (all_of (map test xs)) all))

-- no variable is known where the unit begins
pub entered_known : (unit : NamedUnit) (env : Environment) → Known env → Known (entered unit env)
entered_known unit env known = record { vars = λ k variable is. absurd (nothing_there k variable is); fields = known.fields; constants = known.constants }
  where
    nothing_there : (k : ℕ) (variable : Variable) → slice_get [] k ≡ Some variable → ⊥
    nothing_there k variable is = absurd (cc)

-- what is known of a unit after its head
pub record HeadPassed (unit : NamedUnit) (env : Environment) (head : Environment) : Type 0 where
  pub known : Known head
  pub counts_are : known_in head ≡ with_parameters (known_in env) unit
  pub structs : head.structs ≡ env.structs
  pub units : head.units ≡ env.units
  pub kind : head.kind ≡ unit.kind
  pub named : VariablesNamed unit.vars head.vars
  pub result : is_none unit.result ≡ true → head.result ≡ None
  pub parameters_are : list_all (λ (var : NamedVar). is_parameter var.role) (take (parameters unit) unit.vars) ≡ true

head_by : (unit : NamedUnit) (env inside : Environment) (result : Option ScalarType) → parameters unit ≤ length unit.vars →
    ParametersPassed (entered unit env) (length (take (parameters unit) unit.vars)) inside →
    VariablesNamed unit.vars inside.vars → (is_none unit.result ≡ true → result ≡ None) →
    list_all is_typed_parameter (take (parameters unit) unit.vars) ≡ true → HeadPassed unit env (record inside { result = result })
head_by unit env inside result enough passed named none typed =
    let count : length inside.vars ≡ parameters unit = omega (arith, passed.longer, length-take-le (parameters unit) unit.vars enough) in
    record {
      known = record { vars = passed.known.vars; fields = passed.known.fields; constants = passed.known.constants };
      counts_are =
          ap (λ structs. record { structs = length structs; constants = length inside.constants; units = length inside.units; variables = length inside.vars })
          passed.grown.structs
          ∙ ap (λ constants. record {
            structs = length env.structs;
            constants = length constants;
            units =
                length inside.units;
            variables = length inside.vars;
          })
          passed.same_constants
          ∙ ap (λ units. record { structs = length env.structs; constants = length env.constants; units = length units; variables = length inside.vars })
          passed.grown.units
          ∙ ap (λ n. record { structs = length env.structs; constants = length env.constants; units = length env.units; variables = n }) count;
      structs = passed.grown.structs;
      units = passed.grown.units;
      kind = passed.grown.kind;
      named = named;
      result = none;
      parameters_are = all_weaker is_typed_parameter (λ (var : NamedVar). is_parameter var.role)
          (λ var is. and_first (is_parameter var.role) (is_some var.ty) is) (take (parameters unit) unit.vars) typed;
    }

no_result : (env : Environment) (name : Place) (written : Option NamedType) → is_none written ≡ true → (result_of env name written).result ≡ None
no_result env name None is = refl
no_result env name (Some written) is = absurd (cc)

unit_head : (unit : NamedUnit) (env : Environment) → Known env → roles_placed unit ≡ true →
    list_all (λ (var : NamedVar). is_some var.ty) (take (parameters unit) unit.vars) ≡ true →
    list_all (var_placed (known_in env)) (take (parameters unit) unit.vars) ≡ true → (after_head unit env).failures ≡ [] →
    HeadPassed unit env (after_head unit env).env
unit_head unit env known roles typed placed none =
    let enough : Bool = nat_le (parameters unit) (length unit.vars) in
    let inputs : Bool = list_all (λ (var : NamedVar). is_input var.role) (take unit.inputs unit.vars) in
    let outputs : Bool = list_all (λ (var : NamedVar). is_output var.role) (take unit.outputs (drop unit.inputs unit.vars)) in
    let locals : Bool = list_all (λ (var : NamedVar). is_variable var.role || is_fixed var.role) (drop (parameters unit) unit.vars) in
    let behind : (inputs && (outputs && locals)) ≡ true = and_second enough (inputs && (outputs && locals)) roles in
    let last : (outputs && locals) ≡ true = and_second inputs (outputs && locals) behind in
    let inside : Environment = (after_parameters unit.vars (entered unit env)).env in
    let typed_all = typed_parameters unit.vars unit.inputs unit.outputs (and_first inputs (outputs && locals) behind) (and_first outputs locals last) typed in
    head_by unit env inside (result_of inside unit.name.place unit.result).result
    (leb-true (parameters unit) (length unit.vars) (and_first enough (inputs && (outputs && locals)) roles))
    (head_passes unit.vars (parameters unit) (known_in env) (entered unit env) refl (entered_known unit env known)
    (typed_parameters unit.vars unit.inputs unit.outputs (and_first inputs (outputs && locals) behind) (and_first outputs locals last) typed)
    placed (and_second outputs locals last) (first_empty (after_parameters unit.vars (entered unit env)).failures
    (result_of inside unit.name.place unit.result).failures none))
    (head_named unit.vars (parameters unit) (entered unit env) refl typed_all (and_second outputs locals last)) (no_result inside unit.name.place unit.result)
    typed_all

-- the site of a unit whose body has come to this
around_head : (unit : NamedUnit) (env head : Environment) (site : TypingContext) (later : List StructDef) → HeadPassed unit env head →
    site.structs ≡ env.structs ++ later → env.units ≡ site.earlier → unit.kind ≡ site.kind → head.result ≡ site.result →
    list_all has_parameters site.earlier ≡ true → Around head site
around_head unit env head site later passed structs units kind result heads = record {
  later = later;
  structs = structs ∙ ap (λ structs. structs ++ later) (sym passed.structs);
  units = passed.units ∙ units;
  kind = passed.kind ∙ kind;
  result = result;
  heads = heads;
}

there_of : (structs : List StructDef) (earlier : List UnitDef) (unit : NamedUnit) (made : List Stmt) (env : Environment) → Known env →
    VariablesThere env (site_of structs earlier (unit_of unit made env))
there_of structs earlier unit made env known k var is =
    let found = there_in env known k var is in
    record { var = found.var; is_there = found.is_there; name = found.name; ty = found.ty; role = found.role }

parameters_there : (unit : NamedUnit) (made : List Stmt) (env : Environment) → Known env → length env.vars ≡ length unit.vars →
    parameters unit ≤ length unit.vars → has_parameters (unit_of unit made env) ≡ true
parameters_there unit made env known count enough =
    le-leb (parameters unit) (length (vars_of env.vars)) (omega (arith, length-vars_of (length env.structs) env.vars known.vars, count, enough))

-- the types of variables stand among the structs of the whole program
later_stand : (structs later : List StructDef) (env body : Environment) → structs ≡ env.structs ++ later → body.structs ≡ env.structs → Known body →
    list_all (λ (var : Var). type_stands (length structs) var.ty) (vars_of body.vars) ≡ true
later_stand structs later env body front same known =
    let count : length structs ≡ length env.structs + length later = ap length front ∙ length-append env.structs later in
    let own : length body.structs ≡ length env.structs = ap length same in
    let less : length body.structs ≤ length structs = omega arith in
    all_weaker (λ (var : Var). type_stands (length body.structs) var.ty) (λ (var : Var). type_stands (length structs) var.ty)
    (λ var. stands_more (length body.structs) (length structs) less var.ty) (vars_of body.vars)
    (vars_stand (length body.structs) body.vars known.vars)

left_between : (unit : NamedUnit) (made : List Stmt) (env body : Environment) → Known body → body.units ≡ env.units →
    list_all has_parameters env.units ≡ true →
    has_parameters (unit_of unit made body) ≡ true → BetweenUnits (environment_after unit made body)
left_between unit made env body known units heads has = record {
  vars = refl;
  known = record { vars = λ k variable is. absurd (nothing_there k variable is); fields = known.fields; constants = known.constants };
  heads =
      ap (λ units. list_all has_parameters (units ++ unit_of unit made body ∷ [])) units
      ∙ list_all-append has_parameters env.units (unit_of unit made body ∷ [])
      ∙ and_from (list_all has_parameters env.units) (has_parameters (unit_of unit made body) && true) heads
      (and_from (has_parameters (unit_of unit made body)) true has refl);
}
  where
    nothing_there : (k : ℕ) (variable : Variable) → slice_get [] k ≡ Some variable → ⊥
    nothing_there k variable is = absurd (cc)

left_counts : (unit : NamedUnit) (made : List Stmt) (body : Environment) (inner counts : DeclaredBefore) → known_in body ≡ inner →
    Some (record inner { units = inner.units + 1; variables = 0 }) ≡ Some counts → known_in (environment_after unit made body) ≡ counts
left_counts unit made body inner counts is are =
    ap (λ n. record { structs = length body.structs; constants = length body.constants; units = n; variables = 0 })
    (length-append body.units (unit_of unit made body ∷ []))
    ∙ ap (λ (inner : DeclaredBefore). record inner { units = inner.units + 1; variables = 0 }) is
    ∙ same_Some (record inner { units = inner.units + 1; variables = 0 }) counts are

module _ (constants : List NamedConstant) (unit : NamedUnit) (env : Environment) (structs later : List StructDef) (front : structs ≡ env.structs ++ later)
    (between : BetweenUnits env) (named : unit_named constants env.units unit ≡ true) where
  body_passes : (head : Environment) (inner : DeclaredBefore) → HeadPassed unit env head →
      in_turn (map (stmt_step unit.vars constants) unit.body) (known_in head) ≡ Some inner →
      (walked_block constants unit.vars unit.body head).failures ≡ [] →
      (site : TypingContext) → site.structs ≡ env.structs ++ later → env.units ≡ site.earlier → unit.kind ≡ site.kind → head.result ≡ site.result →
      BlockPassed site (fits site) false head inner (walked_block constants unit.vars unit.body head)
  body_passes head inner passed step none site structs units kind result =
      statements_fit constants unit.vars site unit.body
      (ap (λ units. list_all (stmt_named constants unit.vars units) unit.body) (sym units)
      ∙ and_second (list_all (λ (var : NamedVar). is_some var.ty) (take (parameters unit) unit.vars))
      (list_all (stmt_named constants unit.vars env.units) unit.body) named)
      head (around_head unit env head site later passed structs units kind result
      (subst (λ units. list_all has_parameters units ≡ true) units between.heads))
      passed.known inner step none

  unit_by : (head : Environment) (inner counts : DeclaredBefore) → HeadPassed unit env head →
      in_turn (map (stmt_step unit.vars constants) unit.body) (known_in head) ≡ Some inner → behind_unit unit inner ≡ Some counts →
      parameters unit ≤ length unit.vars → roles_placed unit ≡ true →
      (walked_block constants unit.vars unit.body head).failures ≡ [] → return_failures unit ≡ [] →
      UnitPassed structs unit env counts (environment_after unit (walked_block constants unit.vars unit.body head).made
      (walked_block constants unit.vars unit.body head).env)
  unit_by head inner counts passed step behind enough roles none returning =
      let body : Block Stmt = walked_block constants unit.vars unit.body head in
      let made : UnitDef = unit_of unit body.made body.env in
      let bare : TypingContext = record { structs = structs; earlier = env.units; kind = unit.kind; vars = []; result = head.result } in
      let first = body_passes head inner passed step none bare front refl refl refl in
      let site : TypingContext = site_of structs env.units made in
      let second = body_passes head inner passed step none site front refl refl (sym first.grown.result) in
      let holds = where_holds (nat_eq inner.variables (length unit.vars)) (Some (record inner { units = inner.units + 1; variables = 0 })) counts behind in
      let count : length body.env.vars ≡ length unit.vars = ap (λ (earlier : DeclaredBefore). earlier.variables) first.counts_are
      ∙ eqb-true inner.variables (length unit.vars) holds.0 in
      let units : body.env.units ≡ env.units = first.grown.units ∙ passed.units in
      let turned = bodies_turn constants unit.vars unit.body head inner passed.named step in
      let all_typed : length (vars_of body.env.vars) ≡ length unit.vars = length-vars_of (length body.env.structs) body.env.vars first.known.vars ∙ count in
      record {
        between = left_between unit body.made env body.env first.known units between.heads (parameters_there unit body.made body.env first.known count enough);
        counts_are = left_counts unit body.made body.env inner counts first.counts_are holds.1;
        same_structs = first.grown.structs ∙ passed.structs;
        made = made;
        is_made = ap (λ units. units ++ made ∷ []) units;
        is_good = all_listed (fits site) body.made (second.is_good (there_of structs env.units unit body.made body.env first.known));
        roles = roles_made unit body.made body.env (same_roles unit.vars (length body.env.structs) body.env.vars count first.known.vars turned.named) all_typed
            roles;
        names = same_names unit.vars (length body.env.structs) body.env.vars count first.known.vars turned.named;
        kind = refl;
        returns =
            unit_made_returns constants unit.vars site unit made head inner refl refl
            (λ no_result. ap is_none (first.grown.result ∙ passed.result no_result)) refl
            (all_of_each (stmt_named constants unit.vars env.units) unit.body
            (and_second (list_all (λ (var : NamedVar). is_some var.ty) (take (parameters unit) unit.vars))
            (list_all (stmt_named constants unit.vars env.units) unit.body) named))
            (around_head unit env head site later passed front refl refl (sym first.grown.result) between.heads) passed.known step none returning;
        entry = λ driven.
            let rest = and_second (is_activity unit.kind) (is_none unit.result && list_all can_be_driven unit.vars) driven in
            entry_made unit body.made body.env (length body.env.structs)
            (first.grown.result ∙ passed.result (and_first (is_none unit.result) (list_all can_be_driven unit.vars) rest)) first.known.vars turned.named
            (same_roles unit.vars (length body.env.structs) body.env.vars count first.known.vars turned.named) passed.parameters_are
            (and_first (is_activity unit.kind) (is_none unit.result && list_all can_be_driven unit.vars) driven)
            (and_second (is_none unit.result) (list_all can_be_driven unit.vars) rest);
        vars_stand = later_stand structs later env body.env front (first.grown.structs ∙ passed.structs) first.known;
      }

  unit_step_by : (counts : DeclaredBefore) → unit_step constants unit (known_in env) ≡ Some counts → (after_unit constants unit env).failures ≡ [] →
      UnitPassed structs unit env counts (after_unit constants unit env).env
  unit_step_by counts step none =
      let holds = where_holds (head_placed (known_in env) unit) (option_and_then (behind_unit unit)
      (in_turn (map (stmt_step unit.vars constants) unit.body) (with_parameters (known_in env) unit))) counts step in
      let found = some_found (behind_unit unit) (in_turn (map (stmt_step unit.vars constants) unit.body) (with_parameters (known_in env) unit)) counts holds.1
      in
      let roles : roles_placed unit ≡ true =
      and_first (roles_placed unit) (list_all (var_placed (known_in env)) (take (parameters unit) unit.vars)
      && holds_if (type_placed (known_in env)) unit.result) holds.0 in
      let head : Declaring = after_head unit env in
      let body : Block Stmt = walked_block constants unit.vars unit.body head.env in
      let passed = unit_head unit env between.known roles (and_first (list_all (λ (var : NamedVar). is_some var.ty) (take (parameters unit) unit.vars))
      (list_all (stmt_named constants unit.vars env.units) unit.body) named)
      (and_first (list_all (var_placed (known_in env)) (take (parameters unit) unit.vars)) (holds_if (type_placed (known_in env)) unit.result)
      (and_second (roles_placed unit) (list_all (var_placed (known_in env)) (take (parameters unit) unit.vars)
      && holds_if (type_placed (known_in env)) unit.result) holds.0))
      (first_empty head.failures (body.failures ++ return_failures unit) none) in
      unit_by head.env found.0 counts passed (ap (in_turn (map (stmt_step unit.vars constants) unit.body)) passed.counts_are ∙ found.1) found.2
      (leb-true (parameters unit) (length unit.vars) (and_first (nat_le (parameters unit) (length unit.vars)) _ roles)) roles
      (first_empty body.failures (return_failures unit) (second_empty head.failures (body.failures ++ return_failures unit) none))
      (second_empty body.failures (return_failures unit) (second_empty head.failures (body.failures ++ return_failures unit) none))

-- each statement of a unit in which nothing fails fits
pub unit_passes : (constants : List NamedConstant) (unit : NamedUnit) (env : Environment) (structs later : List StructDef) →
    structs ≡ env.structs ++ later →
    BetweenUnits env → unit_named constants env.units unit ≡ true → (counts : DeclaredBefore) →
    unit_step constants unit (known_in env) ≡ Some counts → (after_unit constants unit env).failures ≡ [] →
    UnitPassed structs unit env counts (after_unit constants unit env).env
unit_passes constants unit env structs later front between named = unit_step_by constants unit env structs later front between named
