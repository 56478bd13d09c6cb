-- The head of a unit: its parameters and its result.
use Rattle.std.proofs.Common.{◌≡◌, ℕ, suc, ◌+◌, List, [], ◌∷◌, ◌++◌, length, take, drop, Option, Some, None, refl, ap, sym, subst, ◌∙◌, arith}
use Rattle.std.specs.Prelude.{Bool, true, false, ◌&&◌, ◌||◌, is_some, option_map, slice_get, if◌then◌else◌}
use Rattle.std.specs.List.{cons_option, list_all}
use Rattle.std.proofs.Math.Seq.{take-add}
use Rattle.std.proofs.lemmas.List.Folds.{list_all-append}
use Rattle.std.proofs.lemmas.List.{length-append, take-append-drop}
use Rattle.std.proofs.lemmas.Bool.{and_from}
use Rattle.bl_tree.proofs.Basics.{all_weaker, and_first, and_second, first_empty, second_empty}
use Rattle.bl_tree.specs.declared.tree.Role.{Role}
use Rattle.bl_tree.specs.declared.tree.Role.TheVariants.{Input, Output, Variable as Var, Fixed}
use Rattle.bl_tree.specs.declared.tree.Ty.{Ty}
use Rattle.bl_tree.specs.Program.{is_input, is_output}
use Rattle.bl_tree.specs.Typing.{is_fixed, is_variable}
use Rattle.bl_names_tree.specs.declared.item.NamedVar.{NamedVar}
use Rattle.bl_types.specs.declared.environment.Environment.{Environment}
use Rattle.bl_types.specs.declared.environment.Variable.{Variable}
use Rattle.bl_types.specs.Declarations.{Declaring, optional_lengths, after_parameter, after_parameters, after_variable, is_parameter, unchanged, with_variable}
use Rattle.bl_types.specs.Units.{var_typed, vars_of}
use Rattle.bl_types.specs.Written.{written_type}
use Rattle.bl_names_tree.specs.declared.types.NamedType.{NamedType}
use Rattle.bl_names_tree.specs.Placed.{DeclaredBefore, holds_if, type_placed, var_placed}
use Rattle.bl_tree.specs.Types.{type_stands}
use Rattle.bl_types.specs.declared.environment.Constant.{Constant}
use Rattle.bl_types_laws.proofs.TypesStand.{written_stands}
use Rattle.bl_types_laws.specs.Standing.{Grown, Known, VariableKnown}
use Rattle.bl_types_laws.proofs.Declared.{variable_grown, variable_known}
use Rattle.bl_types_laws.proofs.Expressions.{some_of}
use Rattle.bl_types_laws.proofs.Walks.{grown_further, grown_self}
use Rattle.bl_names_laws.proofs.WhatKeeps.{all_both}

-- parameters that have types are all known
pub record ParametersPassed (before : Environment) (count : ℕ) (after : Environment) : Type 0 where
  pub grown : Grown before after
  pub known : Known after
  pub longer : length after.vars ≡ length before.vars + count
  pub same_constants : after.constants ≡ before.constants

abbrev pub is_typed_parameter : NamedVar → Bool
is_typed_parameter var = is_parameter var.role && is_some var.ty

pub parameter_is : (var : NamedVar) (env : Environment) → is_parameter var.role ≡ true →
    (after_parameter var env).env ≡ with_variable env var (option_map (written_type env.constants) var.ty)
parameter_is var env is = ap (λ holds. (if holds then after_variable var env else unchanged env).env) is

-- the type of a variable stands, where one is written
abbrev pub written_good : ℕ → List Constant → NamedVar → Bool
written_good n constants var = holds_if (λ ty. type_stands n (written_type constants ty)) var.ty

one_parameter : (n : ℕ) (constants : List Constant) (var : NamedVar) (env : Environment) → length env.structs ≡ n →
    env.constants ≡ constants → Known env →
    is_typed_parameter var ≡ true → written_good n constants var ≡ true →
    ParametersPassed env 1 (with_variable env var (option_map (written_type env.constants) var.ty))
one_parameter n constants var env structs same known is good =
    let ty : Option Ty = option_map (written_type env.constants) var.ty in
    let written = some_of var.ty (and_second (is_parameter var.role) (is_some var.ty) is) in
    record {
      grown = variable_grown env var ty;
      known = variable_known env var ty (written_type env.constants written.0) known (ap (option_map (written_type env.constants)) written.1)
          ((λ i. type_stands (structs i) (written_type (same i) written.0))
          ∙ ap (holds_if (λ ty. type_stands n (written_type constants ty))) (sym written.1)
          ∙ good);
      longer = length-append env.vars (record { name = var.name.text; place = var.name.place; ty = ty; role = var.role } ∷ []);
      same_constants = refl;
    }

further_parameters : (a b c : Environment) (count : ℕ) → ParametersPassed a 1 b → ParametersPassed b count c → ParametersPassed a (suc count) c
further_parameters a b c count one more = record {
  grown = grown_further a b c one.grown more.grown;
  known = more.known;
  longer = omega (arith, one.longer, more.longer);
  same_constants = more.same_constants ∙ one.same_constants;
}

parameters_pass : (n : ℕ) (constants : List Constant) (vars : List NamedVar) (env : Environment) → length env.structs ≡ n →
    env.constants ≡ constants →
    Known env → list_all is_typed_parameter vars ≡ true →
    list_all (written_good n constants) vars ≡ true → ParametersPassed env (length vars) (after_parameters vars env).env
parameters_pass n constants [] env structs same known all good = record { grown = grown_self env; known = known; longer = omega arith; same_constants = refl }
parameters_pass n constants (var ∷ rest) env structs same known all good =
    let typed : is_typed_parameter var ≡ true = and_first (is_typed_parameter var) (list_all is_typed_parameter rest) all in
    let first : Environment = (after_parameter var env).env in
    let one : ParametersPassed env 1 first =
    subst (ParametersPassed env 1) (sym (parameter_is var env (and_first (is_parameter var.role) (is_some var.ty) typed)))
    (one_parameter n constants var env structs same known typed (and_first (written_good n constants var) (list_all (written_good n constants) rest) good)) in
    further_parameters env first (after_parameters rest first).env (length rest) one
    (parameters_pass n constants rest first (ap length one.grown.structs ∙ structs) (one.same_constants ∙ same) one.known
    (and_second (is_typed_parameter var) (list_all is_typed_parameter rest) all)
    (and_second (written_good n constants var) (list_all (written_good n constants) rest) good))

optional_good : (earlier : DeclaredBefore) (constants : List Constant) (env : Environment) (ty : Option NamedType) → env.constants ≡ constants →
    holds_if (type_placed earlier) ty ≡ true → optional_lengths env ty ≡ [] →
    holds_if (λ ty. type_stands earlier.structs (written_type constants ty)) ty ≡ true
optional_good earlier constants env None same placed none = refl
optional_good earlier constants env (Some written) same placed none =
    ap (λ constants. type_stands earlier.structs (written_type constants written)) (sym same) ∙ written_stands earlier env.constants written placed none

-- parameters none of whose lengths fails have types that stand
parameters_good : (earlier : DeclaredBefore) (constants : List Constant) (vars : List NamedVar) (env : Environment) → env.constants ≡ constants →
    list_all is_typed_parameter vars ≡ true → list_all (var_placed earlier) vars ≡ true →
    (after_parameters vars env).failures ≡ [] → list_all (written_good earlier.structs constants) vars ≡ true
parameters_good earlier constants [] env same all placed none = refl
parameters_good earlier constants (var ∷ rest) env same all placed none =
    let first : Declaring = after_parameter var env in
    let role : is_parameter var.role ≡ true = and_first (is_parameter var.role) (is_some var.ty)
    (and_first (is_typed_parameter var) (list_all is_typed_parameter rest) all) in
    let lengths : optional_lengths env var.ty ≡ [] =
    ap (λ holds. (if holds then after_variable var env else unchanged env).failures) (sym role)
    ∙ first_empty first.failures (after_parameters rest first.env).failures none in
    and_from (written_good earlier.structs constants var) (list_all (written_good earlier.structs constants) rest)
    (optional_good earlier constants env var.ty same (and_first (var_placed earlier var) (list_all (var_placed earlier) rest) placed) lengths)
    (parameters_good earlier constants rest first.env (ap (λ (env : Environment). env.constants) (parameter_is var env role) ∙ same)
    (and_second (is_typed_parameter var) (list_all is_typed_parameter rest) all)
    (and_second (var_placed earlier var) (list_all (var_placed earlier) rest) placed) (second_empty first.failures (after_parameters rest first.env).failures none))

-- what fails in some fails in all
failures_front : (xs ys : List NamedVar) (env : Environment) → (after_parameters (xs ++ ys) env).failures ≡ [] → (after_parameters xs env).failures ≡ []
failures_front [] ys env none = refl
failures_front (x ∷ xs) ys env none =
    let first : Declaring = after_parameter x env in
    let one : first.failures ≡ [] = first_empty first.failures (after_parameters (xs ++ ys) first.env).failures none in
    let more : (after_parameters xs first.env).failures ≡ [] = failures_front xs ys first.env
    (second_empty first.failures (after_parameters (xs ++ ys) first.env).failures none) in
    λ i. one i ++ more i

abbrev pub is_local : NamedVar → Bool
is_local var = is_variable var.role || is_fixed var.role

local_role : (role : Role) → (is_variable role || is_fixed role) ≡ true → is_parameter role ≡ false
local_role Input is = absurd (cc)
local_role Output is = absurd (cc)
local_role Var is = refl
local_role Fixed is = refl

pub locals_pass : (vars : List NamedVar) (env : Environment) → list_all is_local vars ≡ true → (after_parameters vars env).env ≡ env
locals_pass [] env all = refl
locals_pass (var ∷ rest) env all =
    ap (λ holds. (after_parameters rest (if holds then after_variable var env else unchanged env).env).env)
    (local_role var.role (and_first (is_local var) (list_all is_local rest) all))
    ∙ locals_pass rest env (and_second (is_local var) (list_all is_local rest) all)

pub parameters_append : (xs ys : List NamedVar) (env : Environment) → (after_parameters (xs ++ ys) env).env
    ≡ (after_parameters ys (after_parameters xs env).env).env
parameters_append [] ys env = refl
parameters_append (x ∷ xs) ys env = parameters_append xs ys (after_parameter x env).env

pub input_role : (role : Role) → is_input role ≡ true → is_parameter role ≡ true
input_role Input is = refl
input_role Output is = absurd (cc)
input_role Var is = absurd (cc)
input_role Fixed is = absurd (cc)

pub output_role : (role : Role) → is_output role ≡ true → is_parameter role ≡ true
output_role Input is = absurd (cc)
output_role Output is = refl
output_role Var is = absurd (cc)
output_role Fixed is = absurd (cc)

-- the first n and the next m
take_both : {X : Type 0} (p : X → Bool) (xs : List X) (n m : ℕ) → list_all p (take n xs) ≡ true → list_all p (take m (drop n xs)) ≡ true →
    list_all p (take (n + m) xs) ≡ true
take_both p xs n m first next =
    ap (list_all p) (take-add n m xs) ∙ list_all-append p (take n xs) (take m (drop n xs))
    ∙ and_from (list_all p (take n xs)) (list_all p (take m (drop n xs))) first next

-- the inputs and outputs of a unit, where they have types, are typed parameters
pub typed_parameters : (vars : List NamedVar) (inputs outputs : ℕ) → list_all (λ (var : NamedVar). is_input var.role) (take inputs vars) ≡ true →
    list_all (λ (var : NamedVar). is_output var.role) (take outputs (drop inputs vars)) ≡ true →
    list_all (λ (var : NamedVar). is_some var.ty) (take (inputs + outputs) vars) ≡ true →
    list_all is_typed_parameter (take (inputs + outputs) vars) ≡ true
typed_parameters vars inputs outputs first next typed =
    all_both (λ (var : NamedVar). is_parameter var.role) (λ (var : NamedVar). is_some var.ty) (take (inputs + outputs) vars)
    (take_both (λ (var : NamedVar). is_parameter var.role) vars inputs outputs
    (all_weaker (λ (var : NamedVar). is_input var.role) (λ (var : NamedVar). is_parameter var.role) (λ var. input_role var.role) (take inputs vars) first)
    (all_weaker (λ (var : NamedVar). is_output var.role) (λ (var : NamedVar). is_parameter var.role) (λ var. output_role var.role)
    (take outputs (drop inputs vars)) next))
    typed

-- after all the variables of a unit as many are known as it has parameters
pub head_passes : (vars : List NamedVar) (n : ℕ) (earlier : DeclaredBefore) (env : Environment) → length env.structs ≡ earlier.structs → Known env →
    list_all is_typed_parameter (take n vars) ≡ true → list_all (var_placed earlier) (take n vars) ≡ true →
    list_all is_local (drop n vars) ≡ true → (after_parameters vars env).failures ≡ [] →
    ParametersPassed env (length (take n vars)) (after_parameters vars env).env
head_passes vars n earlier env structs known first placed rest none =
    let inside : Environment = (after_parameters (take n vars) env).env in
    let is : (after_parameters vars env).env ≡ inside =
    ap (λ vars. (after_parameters vars env).env) (sym (take-append-drop n vars)) ∙ parameters_append (take n vars) (drop n vars) env
    ∙ locals_pass (drop n vars) inside rest in
    let front : (after_parameters (take n vars) env).failures ≡ [] =
    failures_front (take n vars) (drop n vars) env (ap (λ vars. (after_parameters vars env).failures) (take-append-drop n vars) ∙ none) in
    subst (ParametersPassed env (length (take n vars))) (sym is)
    (parameters_pass earlier.structs env.constants (take n vars) env structs refl known first
    (parameters_good earlier env.constants (take n vars) env refl first placed front))

-- each variable that has a type is one of the unit
pub length-vars_of : (n : ℕ) (xs : List Variable) → ((k : ℕ) (known : Variable) → slice_get xs k ≡ Some known → VariableKnown n known) →
    length (vars_of xs) ≡ length xs
length-vars_of n [] typed = refl
length-vars_of n (x ∷ xs) typed =
    let first = typed 0 x refl in
    ap (λ found. length (cons_option (option_map (var_typed x) found) (vars_of xs))) first.is_typed
    ∙ ap suc (length-vars_of n xs (λ k known is. typed (suc k) known is))
