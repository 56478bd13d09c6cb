-- The variables that an activity holds, and its parameters, have no more scalars than all of its variables.
use Rattle.std.proofs.Common.{◌≡◌, ℕ, zero, suc, ◌+◌, ◌≤◌, Bool, true, false, ◌||◌, List, [], ◌∷◌, map, length, take}
use Rattle.std.proofs.Common.{Option, Some, None, refl, sym, ap, ◌∙◌, arith, length-append, take-add}
use Rattle.std.proofs.lemmas.List.{map-append}
use Rattle.std.proofs.lemmas.List.Folds.{list_all-append}
use Rattle.std.specs.List.{list_all}
use Rattle.std.specs.Prelude.{is_none, is_some, slice_get, if◌then◌else◌}
use Rattle.std.proofs.lemmas.Bool.{and_from}
use Rattle.bl_tree.proofs.Basics.{and_first, and_second}
use Rattle.bl_tree.specs.declared.c.CMember.{CMember}
use Rattle.bl_tree.specs.declared.scalar.Scalar.{Scalar as ScalarType}
use Rattle.bl_tree.specs.declared.tree.StructDef.{StructDef}
use Rattle.bl_tree.specs.declared.tree.Unit.{Unit as UnitDef}
use Rattle.bl_tree.specs.declared.tree.Var.{Var}
use Rattle.bl_tree.specs.Program.{IsWellTyped, is_input, is_output, parameters_of}
use Rattle.bl_tree.specs.Reduce.{total}
use Rattle.bl_tree.specs.Types.{scalar_in, type_stands}
use Rattle.bl_tree.specs.Typing.{TypingContext, inputs_of, is_activity, outputs_of, site_of}
use Rattle.bl_limits_measures.specs.Types.{size}
use Rattle.bl_ctext_semantics.specs.Sizes.{Sizes, size_of_member, size_of_param, size_of_type}
use Rattle.bl_emit_acts.specs.declared.home.Home.{Home}
use Rattle.bl_emit_acts.specs.declared.home.Home.TheVariants.{Held, Local, Lent}
use Rattle.bl_emit_acts.specs.Places.{home_of, home_of_role}
use Rattle.bl_emit_acts_laws_simulation.proofs.Homes.{activity_home, input_unheld, output_unheld}
use Rattle.bl_emit_acts.specs.Types.{c_type}
use Rattle.bl_emit_functions.specs.Functions.{is_held, member_of, members_from, param_of, params_from}
use Rattle.bl_emit_functions_laws_wellformed.specs.Cells.{SizesKnown}
use Rattle.bl_emit_functions_laws_wellformed.specs.Numbered.{TypesHaveScalars}
use Rattle.bl_emit_acts_laws_wellformed.proofs.OnFormed.Units.{inputs_stand, outputs_stand}
use Rattle.bl_tree.proofs.ReduceLemmas.{total-append}

abbrev stands_so : List StructDef → Var → Bool
stands_so structs var = type_stands (length structs) var.ty

abbrev size_so : List StructDef → Var → ℕ
size_so structs var = size structs var.ty

module _ (structs : List StructDef) (units : List UnitDef) (entry : ℕ) (keeps : IsWellTyped structs units entry)
    (scalars : TypesHaveScalars structs units entry) (known : Sizes) (sizes : SizesKnown structs units known)
    (earlier : List UnitDef) (unit : UnitDef) where
  abbrev pub site : TypingContext
  site = site_of structs earlier unit

  abbrev holds : Var → Bool
  holds var = is_held (home_of site (Some var))

  -- what a variable adds to what is remembered
  abbrev pub held : Var → ℕ
  held var = if holds var then size structs var.ty else 0

  abbrev member_cells : List CMember → ℕ
  member_cells members = total (map (size_of_member known) members)

  pub members-less : (k : ℕ) (vars : List Var) → list_all (stands_so structs) vars ≡ true →
      member_cells (members_from site k vars) ≤ total (map held vars)
  members-less k [] stand = omega arith
  members-less k (var ∷ rest) stand =
      let own = and_first (stands_so structs var) (list_all (stands_so structs) rest) stand in
      let one = by (holds var) own in
      let later = members-less (k + 1) rest (and_second (stands_so structs var) (list_all (stands_so structs) rest) stand) in
      let split = ap total (map-append (size_of_member known) (member_of (holds var) structs unit.vars k var) (members_from site (k + 1) rest))
      ∙ total-append (map (size_of_member known) (member_of (holds var) structs unit.vars k var))
      (map (size_of_member known) (members_from site (k + 1) rest)) in
      omega (arith, one, later, split)
    where
      by : (b : Bool) → stands_so structs var ≡ true → member_cells (member_of b structs unit.vars k var) ≤ (if b then size structs var.ty else 0)
      by true own = let less = sizes.types var.ty own in omega (arith, less)
      by false own = omega arith

  pub members-few : (k : ℕ) (vars : List Var) → list_all (stands_so structs) vars ≡ true →
      length (members_from site k vars) ≤ total (map held vars)
  members-few k [] stand = omega arith
  members-few k (var ∷ rest) stand =
      let own = and_first (stands_so structs var) (list_all (stands_so structs) rest) stand in
      let one = by (holds var) own in
      let later = members-few (k + 1) rest (and_second (stands_so structs var) (list_all (stands_so structs) rest) stand) in
      let split = length-append (member_of (holds var) structs unit.vars k var) (members_from site (k + 1) rest) in
      omega (arith, one, later, split)
    where
      by : (b : Bool) → stands_so structs var ≡ true → length (member_of b structs unit.vars k var) ≤ (if b then size structs var.ty else 0)
      by true own = let some = scalars var.ty keeps own in omega (arith, some)
      by false own = omega arith

  held-less : (vars : List Var) → total (map held vars) ≤ total (map (size_so structs) vars)
  held-less [] = omega arith
  held-less (var ∷ vars) = let one = by (holds var) in let rest = held-less vars in omega (arith, one, rest)
    where
      by : (b : Bool) → (if b then size structs var.ty else 0) ≤ size structs var.ty
      by true = omega arith
      by false = omega arith

  -- a variable that isn't remembered
  abbrev unheld : Var → Bool
  unheld var = if holds var then false else true

  apart : (n : ℕ) (vars : List Var) → list_all unheld (take n vars) ≡ true →
      total (map held vars) + total (map (size_so structs) (take n vars)) ≤ total (map (size_so structs) vars)
  apart zero vars none = let less = held-less vars in omega (arith, less)
  apart (suc n) [] none = omega arith
  apart (suc n) (var ∷ vars) none =
      let own = by (holds var) (and_first (unheld var) (list_all unheld (take n vars)) none) in
      let rest = apart n vars (and_second (unheld var) (list_all unheld (take n vars)) none) in
      omega (arith, own, rest)
    where
      by : (b : Bool) → (if b then false else true) ≡ true → (if b then size structs var.ty else 0) ≡ 0
      by true none = absurd (cc)
      by false none = refl

  module _ (active : is_activity unit.kind ≡ true) where
    as-unheld : (var : Var) → (home_of_role false var.role (is_some (scalar_in var.ty)) false ≡ Held → ⊥) → unheld var ≡ true
    as-unheld var never = by (home_of site (Some var)) (λ is. never (sym (activity_home site var active) ∙ is))
      where
        by : (home : Home) → (home ≡ Held → ⊥) → (if is_held home then false else true) ≡ true
        by Held never = absurd (never refl)
        by Local never = refl
        by Lent never = refl

    inputs-unheld : (vars : List Var) → list_all (λ (var : Var). is_input var.role) vars ≡ true → list_all unheld vars ≡ true
    inputs-unheld [] all = refl
    inputs-unheld (var ∷ vars) all =
        and_from (unheld var) (list_all unheld vars)
        (as-unheld var (input_unheld false var.role (is_some (scalar_in var.ty))
        (and_first (is_input var.role) (list_all (λ (var : Var). is_input var.role) vars) all)))
        (inputs-unheld vars (and_second (is_input var.role) (list_all (λ (var : Var). is_input var.role) vars) all))

    outputs-unheld : (vars : List Var) → list_all (λ (var : Var). is_output var.role) vars ≡ true → list_all unheld vars ≡ true
    outputs-unheld [] all = refl
    outputs-unheld (var ∷ vars) all =
        and_from (unheld var) (list_all unheld vars)
        (as-unheld var (output_unheld false var.role (is_some (scalar_in var.ty)) false
        (and_first (is_output var.role) (list_all (λ (var : Var). is_output var.role) vars) all)))
        (outputs-unheld vars (and_second (is_output var.role) (list_all (λ (var : Var). is_output var.role) vars) all))

    pub held-apart : (k : ℕ) → slice_get units k ≡ Some unit →
        total (map held unit.vars) + total (map (size_so structs) (parameters_of unit)) ≤ total (map (size_so structs) unit.vars)
    held-apart k there =
        apart (unit.inputs + unit.outputs) unit.vars
        (ap (list_all unheld) (take-add unit.inputs unit.outputs unit.vars)
        ∙ list_all-append unheld (inputs_of unit) (outputs_of unit)
        ∙ and_from (list_all unheld (inputs_of unit)) (list_all unheld (outputs_of unit))
        (inputs-unheld (inputs_of unit) (inputs_stand structs units entry keeps k unit there))
        (outputs-unheld (outputs_of unit) (outputs_stand structs units entry keeps k unit there)))

  -- ---- parameters of C

  param-by : (var : Var) (s : Option ScalarType) (out : Bool) → stands_so structs var ≡ true → scalar_in var.ty ≡ s →
      (if out || is_none s then 1 else size_of_type known (c_type structs var.ty)) ≤ size structs var.ty
  param-by var None true stand is = scalars var.ty keeps stand
  param-by var None false stand is = scalars var.ty keeps stand
  param-by var (Some s) true stand is = scalars var.ty keeps stand
  param-by var (Some s) false stand is = sizes.types var.ty stand

  pub params-less : (k : ℕ) (vars : List Var) → list_all (stands_so structs) vars ≡ true →
      total (map (size_of_param known) (params_from structs unit.vars k vars)) ≤ total (map (size_so structs) vars)
  params-less k [] stand = omega arith
  params-less k (var ∷ rest) stand =
      let one : size_of_param known (param_of structs unit.vars k var) ≤ size structs var.ty =
      param-by var (scalar_in var.ty) (is_output var.role) (and_first (stands_so structs var) (list_all (stands_so structs) rest) stand) refl in
      let later = params-less (k + 1) rest (and_second (stands_so structs var) (list_all (stands_so structs) rest) stand) in
      omega (arith, one, later)
