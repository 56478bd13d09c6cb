-- The C file of an accepted program is well formed.
use Rattle.bl_tree.specs.declared.program.Program.{Program}
use Rattle.bl_tree.specs.declared.tree.Unit.{Unit as UnitDef}
use Rattle.bl_tree.specs.Program.{IsWellTyped}
use Rattle.std.specs.Prelude.{◌≡◌, List, Some, slice_get}
use Rattle.bl_ctext_semantics.specs.Faults.{WellFormed}
use Rattle.bl_effects.specs.Rules.{Passes}
use Rattle.bl_limits.specs.Rules.{Passes as KeepsLimits}
use Rattle.bl_machine.specs.declared.machine.Activity.{Activity as InMachine}
use Rattle.bl_machine.specs.Machines.{AreActivitiesOf}
use Rattle.bl_emit_spec.specs.Lent.{lent_unit}
use Rattle.bl_emit_laws.specs.Kept.{shown_file}

-- no clause fails in the file written of a program that passes the rules, with any machine of it, where its entry has the inputs of a unit lent
abbrev pub ProgramsWellFormed : Program → Type 0
ProgramsWellFormed program =
    (machine : List InMachine) (unit : UnitDef) → IsWellTyped program.structs program.units program.entry → Passes program.units →
    KeepsLimits program.structs program.units program.entry → AreActivitiesOf program.units machine →
    slice_get program.units program.entry ≡ Some (lent_unit unit) →
    WellFormed (shown_file program unit machine)
