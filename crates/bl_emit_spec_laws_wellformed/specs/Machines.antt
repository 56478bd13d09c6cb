-- The C of a machine's activities: it has a spelling, and its names differ.
use Rattle.std.specs.Prelude.{◌≡◌, ℕ, ◌≤◌, Bool, List, take, Some, slice_get}
use Rattle.bl_tree.specs.declared.tree.StructDef.{StructDef}
use Rattle.bl_tree.specs.declared.tree.Unit.{Unit as UnitDef}
use Rattle.bl_tree.specs.Program.{IsWellTyped}
use Rattle.bl_machine.specs.declared.machine.Activity.{Activity as InMachine}
use Rattle.bl_machine.specs.Machines.{IsActivityOf}
use Rattle.bl_limits_measures.specs.Units.{cells_at}
use Rattle.bl_emit_spec.specs.Programs.{activity_of}
use Rattle.bl_emit_spec_laws_wellformed.specs.Names.{NumbersDiffer}
use Rattle.bl_emit_spec_laws_wellformed.specs.Spelled.{CanSpell}

-- an activity in a machine of a typed program's unit which has at most a million cells
pub record IsModest (structs : List StructDef) (units : List UnitDef) (k : ℕ) (unit : UnitDef) (one : InMachine) : Type 0 where
  pub there : slice_get units k ≡ Some unit
  pub of_unit : IsActivityOf unit one
  pub cells : cells_at structs units k ≤ 1_000_000

-- the C of an activity of a machine has a spelling, where its unit has at most a million cells
abbrev pub MachinesSpell : List StructDef → List UnitDef → ℕ → Type 0
MachinesSpell structs units entry =
    (k : ℕ) (unit : UnitDef) (one : InMachine) (remember : List Bool) → IsWellTyped structs units entry → IsModest structs units k unit one →
    CanSpell structs units k (activity_of structs (take k units) remember unit one)

-- the numbers in the names of the C of an activity of a machine differ, where its unit has at most a million cells
abbrev pub MachinesDiffer : List StructDef → List UnitDef → ℕ → Type 0
MachinesDiffer structs units entry =
    (k : ℕ) (unit : UnitDef) (one : InMachine) (remember : List Bool) → IsWellTyped structs units entry → IsModest structs units k unit one →
    NumbersDiffer (activity_of structs (take k units) remember unit one)
