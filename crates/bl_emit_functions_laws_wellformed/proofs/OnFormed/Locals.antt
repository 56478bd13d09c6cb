-- The variables of a function that are locals by themselves: scalars, which stand behind the parameters.
use Rattle.std.proofs.Common.{◌≡◌, ℕ, ◌+◌, ◌<◌, ◌≤◌, Bool, true, false, ◌||◌, List, Option, Some, None, refl, sym, ap, ◌∙◌, arith}
use Rattle.std.specs.Prelude.{is_some, slice_get}
use Rattle.bl_tree.proofs.Basics.{and_first, and_second}
use Rattle.bl_tree.specs.declared.scalar.Scalar.{Scalar as ScalarType}
use Rattle.bl_tree.specs.declared.tree.StructDef.{StructDef}
use Rattle.bl_tree.specs.declared.tree.Unit.{Unit as UnitDef}
use Rattle.bl_tree.specs.declared.tree.Var.{Var}
use Rattle.bl_tree.specs.Program.{locals_of, roles_stand}
use Rattle.bl_tree.specs.Types.{scalar_in}
use Rattle.bl_tree.specs.Typing.{TypingContext, is_fixed, is_function, is_variable, site_of}
use Rattle.bl_emit_acts.specs.Places.{is_alone}
use Rattle.bl_emit_functions.specs.Functions.{has_local, locals_from, variable_local}
use Rattle.bl_emit_functions_laws_simulation.proofs.OnCalls.Locals.{declared_behind}
use Rattle.bl_emit_functions_laws_wellformed.proofs.OnFormed.Kept.{locals_made, made_behind, made_from}

pub scalar_of_local : (site : TypingContext) (var : Var) → has_local site var ≡ true → (s : ScalarType) × (scalar_in var.ty ≡ Some s)
scalar_of_local site var local =
    by (scalar_in var.ty)
    (and_second (is_function site.kind) (is_some (scalar_in var.ty)) (and_first (is_alone site var.ty) (is_variable var.role || is_fixed var.role) local))
  where
    by : (o : Option ScalarType) → is_some o ≡ true → (s : ScalarType) × (o ≡ Some s)
    by None some = absurd (cc)
    by (Some s) some = (s, refl)

module _ (structs : List StructDef) (earlier : List UnitDef) (unit : UnitDef) (roles : roles_stand unit ≡ true) where
  abbrev site : TypingContext
  site = site_of structs earlier unit

  pub local_behind : (j : ℕ) (var : Var) → slice_get unit.vars j ≡ Some var → has_local site var ≡ true → unit.inputs + unit.outputs ≤ j
  local_behind j var there local =
      declared_behind structs earlier unit roles j var there (and_second (is_alone site var.ty) (is_variable var.role || is_fixed var.role) local)

  no_parameter : (j : ℕ) (var : Var) → j < unit.inputs + unit.outputs → slice_get unit.vars j ≡ Some var → has_local site var ≡ false
  no_parameter j var less there = by (has_local site var) refl
    where
      by : (local : Bool) → has_local site var ≡ local → local ≡ false
      by true is = absurd (let behind : unit.inputs + unit.outputs ≤ j = local_behind j var there is in omega (arith, less, behind))
      by false is = refl

  -- the locals are made of what stands behind the parameters
  pub locals_behind : locals_from site 0 unit.vars ≡ locals_from site (unit.inputs + unit.outputs) (locals_of unit)
  locals_behind =
      let none : 0 + (unit.inputs + unit.outputs) ≡ unit.inputs + unit.outputs = omega arith in
      locals_made site 0 unit.vars
      ∙ made_behind (has_local site) (variable_local structs unit.vars) (unit.inputs + unit.outputs) 0 unit.vars no_parameter
      ∙ ap (λ k. made_from (has_local site) (variable_local structs unit.vars) k (locals_of unit)) none
      ∙ sym (locals_made site (unit.inputs + unit.outputs) (locals_of unit))
