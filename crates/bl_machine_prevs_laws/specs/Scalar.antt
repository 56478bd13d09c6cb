-- What stands under a `prev` is a scalar variable.
use Rattle.std.specs.Prelude.{◌≡◌, ℕ, Bool, true, false, List, Option, Some, None, is_some, nat_eq, slice_get}
use Rattle.std.specs.List.{list_any}
use Rattle.bl_tree.specs.declared.tree.StructDef.{StructDef}
use Rattle.bl_tree.specs.declared.tree.Unit.{Unit as UnitDef}
use Rattle.bl_tree.specs.declared.tree.Var.{Var}
use Rattle.bl_tree.specs.Program.{IsWellTyped}
use Rattle.bl_tree.specs.Types.{scalar_in}
use Rattle.bl_machine_prevs.specs.Prevs.{prevs_of}

-- whether there is a variable, of a scalar type
abbrev pub is_scalar_var : Option Var → Bool
is_scalar_var (Some var) = is_some (scalar_in var.ty)
is_scalar_var None = false

-- a variable that the body of a typed program's unit names under a `prev` is there, and of a scalar type
abbrev pub PrevsAreScalar : Type 0
PrevsAreScalar =
    (structs : List StructDef) (units : List UnitDef) (entry k x : ℕ) (unit : UnitDef) → IsWellTyped structs units entry →
    slice_get units k ≡ Some unit → list_any (nat_eq x) (prevs_of unit) ≡ true → is_scalar_var (slice_get unit.vars x) ≡ true
