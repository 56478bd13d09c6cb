-- The C file of an accepted program needs no more cells than rule Cells counts.
use Rattle.std.specs.Prelude.{◌≡◌, ◌≤◌, List, Some, slice_get}
use Rattle.bl_tree.specs.declared.program.Program.{Program}
use Rattle.bl_tree.specs.declared.tree.Unit.{Unit as UnitDef}
use Rattle.bl_tree.specs.Program.{IsWellTyped}
use Rattle.bl_effects.specs.Rules.{Passes}
use Rattle.bl_limits.specs.Rules.{Passes as KeepsLimits}
use Rattle.bl_machine.specs.declared.machine.Activity.{Activity as InMachine}
use Rattle.bl_machine.specs.Machines.{AreActivitiesOf}
use Rattle.bl_limits_measures.specs.Units.{cells_at}
use Rattle.bl_ctext_semantics.specs.Sizes.{cells_needed}
use Rattle.bl_emit_spec.specs.Lent.{lent_unit}
use Rattle.bl_emit_laws.specs.Kept.{shown_file}

-- the file written of a typed program needs no more cells than its entry has, where rules Frames and Cells hold
abbrev pub FilesCount : Program → Type 0
FilesCount program =
    (machine : List InMachine) (unit : UnitDef) → IsWellTyped program.structs program.units program.entry →
    KeepsLimits program.structs program.units program.entry → AreActivitiesOf program.units machine →
    slice_get program.units program.entry ≡ Some (lent_unit unit) →
    cells_needed (shown_file program unit machine) ≤ cells_at program.structs program.units program.entry

-- the file written of a program that passes the rules needs at most a million cells, with any machine of it
abbrev pub FilesSmall : Program → Type 0
FilesSmall program =
    (machine : List InMachine) → IsWellTyped program.structs program.units program.entry → Passes program.units →
    KeepsLimits program.structs program.units program.entry → AreActivitiesOf program.units machine →
    (unit : UnitDef) → slice_get program.units program.entry ≡ Some (lent_unit unit) →
    cells_needed (shown_file program unit machine) ≤ 1_000_000
