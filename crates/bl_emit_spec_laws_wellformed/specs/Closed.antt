-- The units that the entry of a program needs.
use Rattle.std.specs.Prelude.{◌≡◌, ℕ, true, List, nat_eq, Some, slice_get}
use Rattle.std.specs.List.{list_any}
use Rattle.bl_tree.specs.declared.tree.StructDef.{StructDef}
use Rattle.bl_tree.specs.declared.tree.Unit.{Unit as UnitDef}
use Rattle.bl_tree.specs.Program.{IsWellTyped}
use Rattle.bl_ctree.specs.declared.instance.Instance.{Instance}
use Rattle.bl_ctree.specs.Instances.{instances_of}
use Rattle.bl_emit_spec.specs.Programs.{needed_units, needs_of}

-- the needed units of a typed program are closed under calls and `run`s
pub record NeededClosed (structs : List StructDef) (units : List UnitDef) (entry : ℕ) : Type 0 where
  -- the entry is needed
  pub entry_is : IsWellTyped structs units entry → slice_get (needed_units units entry) entry ≡ Some true
  -- each unit that a needed one calls or runs is needed
  pub closed : (k j : ℕ) (unit : UnitDef) → IsWellTyped structs units entry → slice_get units k ≡ Some unit →
      slice_get (needed_units units entry) k ≡ Some true → list_any (nat_eq j) (needs_of unit) ≡ true →
      slice_get (needed_units units entry) j ≡ Some true

-- the unit of each instance is needed
abbrev pub InstancesNeeded : List StructDef → List UnitDef → ℕ → Type 0
InstancesNeeded structs units entry =
    (i : ℕ) (instance : Instance) → IsWellTyped structs units entry → slice_get (instances_of units entry) i ≡ Some instance →
    slice_get (needed_units units entry) instance.unit ≡ Some true
