-- The units that the entry of a program needs are as small as rule Cells asks.
use Rattle.std.specs.Prelude.{◌≡◌, ℕ, ◌≤◌, true, List, take, Some, slice_get}
use Rattle.bl_tree.specs.declared.tree.StructDef.{StructDef}
use Rattle.bl_tree.specs.declared.tree.Unit.{Unit as UnitDef}
use Rattle.bl_tree.specs.Program.{IsWellTyped}
use Rattle.bl_limits.specs.Rules.{Passes}
use Rattle.bl_limits_measures.specs.Units.{cells_at}
use Rattle.bl_emit_functions_laws_wellformed.specs.Formed.{IsNumbered}
use Rattle.bl_emit_spec.specs.Programs.{needed_units}

-- a unit that the entry needs has no more cells than the entry
abbrev pub NeededCells : List StructDef → List UnitDef → ℕ → Type 0
NeededCells structs units entry =
    (k : ℕ) → IsWellTyped structs units entry → slice_get (needed_units units entry) k ≡ Some true →
    cells_at structs units k ≤ cells_at structs units entry

-- a unit that the entry needs has at most a million cells, where rule Cells holds
abbrev pub NeededSmall : List StructDef → List UnitDef → ℕ → Type 0
NeededSmall structs units entry =
    (k : ℕ) → IsWellTyped structs units entry → Passes structs units entry → slice_get (needed_units units entry) k ≡ Some true →
    cells_at structs units k ≤ 1_000_000

-- 64 bits hold the numbers in the names of the C function of a needed unit, where the rules hold
abbrev pub NeededNumbered : List StructDef → List UnitDef → ℕ → Type 0
NeededNumbered structs units entry =
    (k : ℕ) (unit : UnitDef) → IsWellTyped structs units entry → Passes structs units entry → slice_get units k ≡ Some unit →
    slice_get (needed_units units entry) k ≡ Some true → IsNumbered structs (take k units) unit
