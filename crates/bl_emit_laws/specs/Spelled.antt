-- The C file of an accepted program has a spelling.
use Rattle.std.specs.Prelude.{◌≡◌, true, List, Some, slice_get}
use Rattle.bl_tree.specs.declared.program.Program.{Program}
use Rattle.bl_tree.specs.declared.tree.Unit.{Unit as UnitDef}
use Rattle.bl_tree.specs.Program.{IsWellTyped}
use Rattle.bl_ctext.specs.Spellable.{is_spellable}
use Rattle.bl_effects.specs.Rules.{Passes}
use Rattle.bl_limits.specs.Rules.{Passes as KeepsLimits}
use Rattle.bl_machine.specs.declared.machine.Activity.{Activity as InMachine}
use Rattle.bl_machine.specs.Machines.{AreActivitiesOf}
use Rattle.bl_emit_spec.specs.Lent.{lent_unit}
use Rattle.bl_emit_spec.specs.Programs.{written_of}

-- what is written of a typed program with a machine of it has a spelling, where none of the rules Pause, Instant and Cells fails
abbrev pub ProgramsSpelled : Program → Type 0
ProgramsSpelled program =
    (machine : List InMachine) (unit : UnitDef) → IsWellTyped program.structs program.units program.entry → Passes program.units →
    KeepsLimits program.structs program.units program.entry → AreActivitiesOf program.units machine →
    slice_get program.units program.entry ≡ Some (lent_unit unit) →
    is_spellable (written_of program unit machine).structs (written_of program unit machine).funcs ≡ true
