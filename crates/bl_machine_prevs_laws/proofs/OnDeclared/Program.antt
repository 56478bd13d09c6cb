-- The units of a typed program in which no rule fails ask what a variable was only behind its declaration, and their `run`s stand alone.
use Rattle.std.proofs.Common.{◌≡◌, ℕ, zero, suc, ◌+◌, ◌<◌, Bool, true, false, ◌&&◌, ◌||◌, List, [], ◌∷◌, ◌++◌, take}
use Rattle.std.proofs.Common.{drop, length, refl, sym, subst, ◌∙◌, ◌⊎◌, ⊎_elim, arith}
use Rattle.std.specs.Prelude.{Contains, IsTrue, nat_eq, nat_le, slice_get}
use Rattle.std.specs.List.{list_all}
use Rattle.std.proofs.lemmas.Bool.{eqb-true}
use Rattle.bl_tree.proofs.Basics.{all_of_each, and_first, and_second, either_of}
use Rattle.bl_tree.specs.declared.tree.Role.{Role}
use Rattle.bl_tree.specs.declared.tree.Role.TheVariants as role
use Rattle.bl_tree.specs.declared.tree.StructDef.{StructDef}
use Rattle.bl_tree.specs.declared.tree.Unit.{Unit as UnitDef}
use Rattle.bl_tree.specs.declared.tree.Var.{Var}
use Rattle.bl_tree.specs.Apart.{is_apart}
use Rattle.bl_tree.specs.Depths.{is_shallow}
use Rattle.bl_tree.specs.Program.{IsWellTyped, is_input, is_output, locals_of, names_of, parameters_of, roles_stand, unit_stands, units_stand_after}
use Rattle.bl_tree.specs.Returns.{unit_returns}
use Rattle.bl_tree.specs.Types.{type_stands}
use Rattle.bl_tree.specs.Typing.{TypingContext, fits, inputs_of, is_fixed, is_variable, outputs_of, site_of}
use Rattle.bl_tree.specs.Words.{are_distinct, is_name}
use Rattle.bl_tree.proofs.FirstLemmas.{In, contains_in}
use Rattle.bl_parse_tree.specs.declared.item.RawItem.{RawItem}
use Rattle.bl_parse_tree.specs.WellFormed.{RawIsWellFormed}
use Rattle.bl_names_scopes.specs.Rules.{Passes as NamesPass}
use Rattle.bl_names.specs.Named.{named_program}
use Rattle.bl_machine_prevs_laws.specs.Names.Scoped.{first_ones, is_known}
use Rattle.bl_graph_nodes.specs.Laws.{PlainStatements}
use Rattle.bl_types.specs.Programs.{typed_program}
use Rattle.bl_types.specs.Rules.{Passes as TypesPass}
use Rattle.bl_machine_prevs_laws.specs.Types.Declared.{unit_declared}
use Rattle.bl_machine_prevs.specs.Declared.{FromText, prevs_are_declared}
use Rattle.bl_machine_prevs_laws.proofs.OnDeclared.Expressions.{Related, is_var}
use Rattle.bl_machine_prevs_laws.proofs.OnDeclared.Statements.{body_turned}

-- ---- parameters are no `var`

known_below : (n k : ℕ) → is_known (first_ones n) k ≡ true → k < n
known_below zero k is = absurd (cc)
known_below (suc n) k is =
    ⊎_elim (λ same. let here : k ≡ n = eqb-true k n same in omega arith) (λ more. let below : k < n = known_below n k more in omega arith)
    (either_of (nat_eq k n) (is_known (first_ones n) k) is)

input_is : (role : Role) → is_input role ≡ true → is_variable role ≡ false
input_is role.Input is = refl
input_is role.Output is = absurd (cc)
input_is role.Variable is = absurd (cc)
input_is role.Fixed is = absurd (cc)

output_is : (role : Role) → is_output role ≡ true → is_variable role ≡ false
output_is role.Input is = absurd (cc)
output_is role.Output is = refl
output_is role.Variable is = absurd (cc)
output_is role.Fixed is = absurd (cc)

less_one : (k n : ℕ) → suc k < suc n → k < n
less_one k n is = omega arith

no_output : (outputs : ℕ) (vars : List Var) (k : ℕ) → k < outputs → list_all (λ (var : Var). is_output var.role)
    (take outputs vars) ≡ true →
    is_var (slice_get vars k) ≡ false
no_output zero vars k less all = absurd (none_less k less)
  where
    none_less : (k : ℕ) → k < zero → ⊥
    none_less k less = omega arith
no_output (suc n) [] k less all = refl
no_output (suc n) (var ∷ vars) zero less all =
    output_is var.role (and_first (is_output var.role) (list_all (λ (var : Var). is_output var.role) (take n vars)) all)
no_output (suc n) (var ∷ vars) (suc k) less all =
    no_output n vars k (less_one k n less) (and_second (is_output var.role) (list_all (λ (var : Var). is_output var.role) (take n vars)) all)

less_more : (k m n : ℕ) → suc k < suc m + n → k < m + n
less_more k m n is = omega arith

less_none : (k n : ℕ) → k < zero + n → k < n
less_none k n is = omega arith

no_parameter : (inputs outputs : ℕ) (vars : List Var) (k : ℕ) → k < inputs + outputs →
    list_all (λ (var : Var). is_input var.role) (take inputs vars) ≡ true →
    list_all (λ (var : Var). is_output var.role) (take outputs (drop inputs vars)) ≡ true → is_var (slice_get vars k) ≡ false
no_parameter zero outputs vars k less ins outs = no_output outputs vars k (less_none k outputs less) outs
no_parameter (suc m) outputs [] k less ins outs = refl
no_parameter (suc m) outputs (var ∷ vars) zero less ins outs =
    input_is var.role (and_first (is_input var.role) (list_all (λ (var : Var). is_input var.role) (take m vars)) ins)
no_parameter (suc m) outputs (var ∷ vars) (suc k) less ins outs =
    no_parameter m outputs vars k (less_more k m outputs less)
    (and_second (is_input var.role) (list_all (λ (var : Var). is_input var.role) (take m vars)) ins) outs

parameters_unrelated : (structs : List StructDef) (before : List UnitDef) (unit : UnitDef) → roles_stand unit ≡ true →
    Related (site_of structs before unit) (first_ones (unit.inputs + unit.outputs)) []
parameters_unrelated structs before unit roles k var known =
    let ins = list_all (λ (var : Var). is_input var.role) (inputs_of unit) in
    let outs = list_all (λ (var : Var). is_output var.role) (outputs_of unit) in
    let locals = list_all (λ (var : Var). is_variable var.role || is_fixed var.role) (locals_of unit) in
    let rest = and_second (nat_le (unit.inputs + unit.outputs) (length unit.vars)) (ins && (outs && locals)) roles in
    let none = no_parameter unit.inputs unit.outputs unit.vars k (known_below (unit.inputs + unit.outputs) k known) (and_first ins
    (outs && locals) rest)
    (and_first outs locals (and_second ins (outs && locals) rest)) in
    absurd (differs (sym none ∙ var))
  where
    differs : false ≡ true → ⊥
    differs is = absurd (cc)

-- ---- units

record Standing (structs : List StructDef) (unit : UnitDef) : Type 0 where
  pub before : List UnitDef
  pub stands : unit_stands structs before unit ≡ true

standing : (structs : List StructDef) (before units : List UnitDef) (unit : UnitDef) → units_stand_after structs before units ≡ true →
    In unit units →
    Standing structs unit
standing structs before [] unit stand there = absurd there
standing structs before (first ∷ units) unit stand there =
    let rest = units_stand_after structs (before ++ first ∷ []) units in
    ⊎_elim
    (λ is. record {
      before = before;
      stands = subst (λ unit. unit_stands structs before unit ≡ true) (sym is) (and_first (unit_stands structs before first) rest stand);
    })
    (λ later. standing structs (before ++ first ∷ []) units unit (and_second (unit_stands structs before first) rest stand) later) there

one_in : {A : Type 0} (test : A → Bool) (xs : List A) (x : A) → list_all test xs ≡ true → In x xs → test x ≡ true
one_in test [] x all there = absurd there
one_in test (y ∷ xs) x all there =
    ⊎_elim (λ is. subst (λ x. test x ≡ true) (sym is) (and_first (test y) (list_all test xs) all))
    (λ later. one_in test xs x (and_second (test y) (list_all test xs) all) later) there

unit_kept : PlainStatements → (structs : List StructDef) (before : List UnitDef) (unit : UnitDef) → unit_stands structs before unit ≡ true →
    unit_declared unit ≡ true → prevs_are_declared unit ≡ true
unit_kept plains structs before unit stands declared =
    let site : TypingContext = site_of structs before unit in
    let names = list_all is_name (names_of unit.vars) && are_distinct (names_of (parameters_of unit)) in
    let types = list_all (λ (var : Var). type_stands (length structs) var.ty) unit.vars in
    let fit = list_all (fits site) unit.body in
    let shape = unit_returns unit && (is_shallow 200 unit.body && list_all is_apart unit.body) in
    let body = and_second types (fit && shape) (and_second (roles_stand unit && names) (types && (fit && shape)) stands) in
    let turned = body_turned plains site unit.body (all_of_each (fits site) unit.body (and_first fit shape body)) [] in
    turned.stands (first_ones (unit.inputs + unit.outputs)) []
    (parameters_unrelated structs before unit (and_first (roles_stand unit) names (and_first (roles_stand unit && names)
    (types && (fit && shape)) stands))) declared

units_kept : PlainStatements → (structs : List StructDef) (units : List UnitDef) → units_stand_after structs [] units ≡ true →
    list_all unit_declared units ≡ true → (unit : UnitDef) → Contains units unit → prevs_are_declared unit ≡ true
units_kept plains structs units stand declared unit there =
    let inside = contains_in unit units there in
    let one = standing structs [] units unit stand inside in
    unit_kept plains structs one.before unit one.stands (one_in unit_declared units unit declared inside)

-- what the laws of the crates below say, of a program
pub typed_from_text : PlainStatements →
    ((items : List RawItem) (bytes : ℕ) → RawIsWellFormed items → NamesPass items → TypesPass (named_program items bytes) →
    IsWellTyped (typed_program (named_program items bytes)).structs (typed_program (named_program items bytes)).units
    (typed_program (named_program items bytes)).entry) →
    ((items : List RawItem) (bytes : ℕ) → RawIsWellFormed items → NamesPass items → TypesPass (named_program items bytes) →
    IsTrue (list_all unit_declared (typed_program (named_program items bytes)).units)) →
    (items : List RawItem) (bytes : ℕ) → RawIsWellFormed items → NamesPass items → TypesPass (named_program items bytes) →
    FromText (typed_program (named_program items bytes)).units
typed_from_text plains keeps declared items bytes raw names types =
    let typed = typed_program (named_program items bytes) in
    record {
      declared = units_kept plains typed.structs typed.units (keeps items bytes raw names types).units_stand (declared items bytes raw names types);
    }
