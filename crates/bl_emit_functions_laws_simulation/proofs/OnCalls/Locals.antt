-- Variables that are locals of a C function, as parameters by value or by declaration.
use Rattle.std.proofs.Common.{◌≡◌, ℕ, ◌+◌, ◌<◌, ◌≤◌, ◌^◌, pos, arith, Bool, true, false, ◌&&◌, ◌||◌, List, length, Some, refl, ap, ◌∙◌}
use Rattle.std.proofs.lemmas.Bool.{eq-eqb, leb-true, ltb-false, ltb-true}
use Rattle.std.proofs.lemmas.List.{length-take}
use Rattle.std.proofs.lemmas.Option.{slice_get_within}
use Rattle.std.specs.Prelude.{bytes_eq, is_some, nat_lt, if◌then◌else◌}
use Rattle.std.specs.List.{list_all}
use Rattle.std.proofs.lemmas.Bool.{or_left, or_right}
use Rattle.bl_tree.proofs.Basics.{and_first, and_second}
use Rattle.bl_tree.specs.declared.tree.Role.{Role}
use Rattle.bl_tree.specs.declared.tree.Role.TheVariants.{Input, Output, Variable, Fixed}
use Rattle.bl_tree.specs.declared.tree.StructDef.{StructDef}
use Rattle.bl_tree.specs.declared.tree.Unit.{Unit as UnitDef}
use Rattle.bl_tree.specs.declared.tree.Var.{Var}
use Rattle.bl_tree.specs.Program.{is_input, is_output, parameters_of, roles_stand}
use Rattle.bl_tree.specs.Types.{scalar_in}
use Rattle.bl_tree.specs.Typing.{TypingContext, inputs_of, is_fixed, is_variable, outputs_of, site_of, var_at}
use Rattle.bl_ctext_semantics.specs.Meaning.{ArgumentValue}
use Rattle.bl_ctext_semantics.specs.Memory.{Memory, Projection, variable, without_frame, zeros}
use Rattle.bl_emit_acts.specs.declared.home.Home.TheVariants.{Local}
use Rattle.bl_emit_acts.specs.Places.{copies_inputs, home_of, home_of_role, is_alone}
use Rattle.bl_emit_acts.specs.Types.{variable_name}
use Rattle.bl_emit_functions.specs.Functions.{function_code, has_local}
use Rattle.bl_emit_functions_laws_simulation.specs.Calls.{memory_begun}
use Rattle.bl_emit_functions_laws_simulation.proofs.OnCalls.Lists.{front_all, middle_all}
use Rattle.bl_emit_functions_laws_simulation.proofs.OnCalls.Params.{names_differ, other_stays}

-- ---- homes

-- a variable that the function declares as a local is one
pub declared_local : (site : TypingContext) (var : Var) → has_local site var ≡ true → home_of site (Some var) ≡ Local
declared_local site var = by (is_alone site var.ty) var.role
  where
    by : (alone : Bool) (role : Role) → (alone && (is_variable role || is_fixed role)) ≡ true →
        home_of_role alone role (is_some (scalar_in var.ty)) (copies_inputs site) ≡ Local
    by true Input has = absurd (cc)
    by true Output has = absurd (cc)
    by true Variable has = refl
    by true Fixed has = refl
    by false role has = absurd (cc)

-- any other local is a parameter by value
pub local_parameter : (site : TypingContext) (var : Var) → home_of site (Some var) ≡ Local → has_local site var ≡ false →
    (is_input var.role ≡ true) × (is_some (scalar_in var.ty) ≡ true)
local_parameter site var = by (is_alone site var.ty) var.role (is_some (scalar_in var.ty)) (copies_inputs site)
  where
    by : (alone : Bool) (role : Role) (scalar copies : Bool) → home_of_role alone role scalar copies ≡ Local →
        (alone && (is_variable role || is_fixed role)) ≡ false → (is_input role ≡ true) × (scalar ≡ true)
    by alone Input true copies is none = (refl, refl)
    by alone Input false true is none = absurd (cc)
    by alone Input false false is none = absurd (cc)
    by alone Output scalar copies is none = absurd (cc)
    by true Variable scalar copies is none = absurd (cc)
    by false Variable scalar copies is none = absurd (cc)
    by true Fixed scalar copies is none = absurd (cc)
    by false Fixed scalar copies is none = absurd (cc)

-- ---- parameters

not_both : (role : Role) → (is_input role || is_output role) ≡ true → (is_variable role || is_fixed role) ≡ true → ⊥
not_both Input parameter declared = cc
not_both Output parameter declared = cc
not_both Variable parameter declared = cc
not_both Fixed parameter declared = cc

module _ (structs : List StructDef) (earlier : List UnitDef) (unit : UnitDef) (standing : roles_stand unit ≡ true) where
  abbrev site : TypingContext
  site = site_of structs earlier unit

  abbrev n : ℕ
  n = unit.inputs + unit.outputs

  pub parameters_within : unit.inputs + unit.outputs ≤ length unit.vars
  parameters_within = leb-true n (length unit.vars) (and_first _ _ standing)

  pub parameters_many : length (parameters_of unit) ≡ unit.inputs + unit.outputs
  parameters_many = let within : n ≤ length unit.vars = parameters_within in omega (arith, length-take n unit.vars, within)

  all_inputs : list_all (λ (var : Var). is_input var.role) (inputs_of unit) ≡ true
  all_inputs = and_first _ _ (and_second _ _ standing)

  all_outputs : list_all (λ (var : Var). is_output var.role) (outputs_of unit) ≡ true
  all_outputs = and_first _ _ (and_second _ _ (and_second _ _ standing))

  -- a parameter is an input or an output
  pub parameter_role : (j : ℕ) (var : Var) → var_at site j ≡ Some var → j < unit.inputs + unit.outputs → (is_input var.role || is_output var.role) ≡ true
  parameter_role j var there less = by (nat_lt j unit.inputs) refl
    where
      by : (first : Bool) → nat_lt j unit.inputs ≡ first → (is_input var.role || is_output var.role) ≡ true
      by true is =
          or_left (is_input var.role) (is_output var.role)
          (front_all (λ (var : Var). is_input var.role) unit.inputs unit.vars j var all_inputs there (ltb-true j unit.inputs is))
      by false is =
          or_right (is_input var.role) (is_output var.role)
          (middle_all (λ (var : Var). is_output var.role) unit.inputs unit.outputs unit.vars j var all_outputs there
          (ltb-false j unit.inputs is) less)

  -- so a variable that the body declares is none
  pub declared_behind : (j : ℕ) (var : Var) → var_at site j ≡ Some var → (is_variable var.role || is_fixed var.role) ≡ true → n ≤ j
  declared_behind j var there declared = by (nat_lt j n) refl
    where
      by : (parameter : Bool) → nat_lt j n ≡ parameter → n ≤ j
      by true is = absurd (not_both var.role (parameter_role j var there (ltb-true j n is)) declared)
      by false is = ltb-false j n is

  -- ---- where a body begins

  module _ (few : length unit.vars ≤ 2 ^ 64) (depth : ℕ) (passed : List ArgumentValue) (here : Memory) where
    abbrev begun : Memory
    begun = memory_begun (function_code structs earlier unit) depth passed here

    -- a local whose name no parameter has is 0
    pub begun_zero : (name : List ℕ) (way : List Projection) →
        ((i : ℕ) → i < unit.inputs + unit.outputs → bytes_eq (variable_name unit.vars i) name ≡ false) → begun (variable depth name) way ≡ pos 0
    begun_zero name way differ =
        other_stays structs unit.vars depth (parameters_of unit) 0 passed (without_frame depth here) name way
        (λ i more less. differ i (omega (arith, less, parameters_many)))
        ∙ ap (λ b. (if b then zeros else here (variable depth name)) way) (eq-eqb depth depth refl)

    -- so is one of a variable behind the parameters
    pub behind_zero : (j : ℕ) (var : Var) → var_at site j ≡ Some var → unit.inputs + unit.outputs ≤ j → (way : List Projection) →
        begun (variable depth (variable_name unit.vars j)) way ≡ pos 0
    behind_zero j var there more way =
        let inside : j < length unit.vars = slice_get_within unit.vars j var there in
        begun_zero (variable_name unit.vars j) way
        (λ i less. names_differ unit.vars i j (omega (arith, less, more, inside, few)) (omega (arith, inside, few))
        (λ same. omega (arith, same, less, more)))

    -- and one that the function declares
    pub local_zero : (j : ℕ) (var : Var) → var_at site j ≡ Some var → has_local site var ≡ true → (way : List Projection) →
        begun (variable depth (variable_name unit.vars j)) way ≡ pos 0
    local_zero j var there has =
        behind_zero j var there (declared_behind j var there (and_second (is_alone site var.ty) (is_variable var.role || is_fixed var.role) has))
