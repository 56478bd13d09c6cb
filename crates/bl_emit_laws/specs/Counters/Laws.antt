-- The functions of the C file of an accepted program, the counters that they name, and what stands in the bodies of activities' functions.
use Rattle.std.specs.Prelude.{◌≡◌, List, Some, slice_get}
use Rattle.bl_tree.specs.declared.program.Program.{Program}
use Rattle.bl_tree.specs.declared.tree.Unit.{Unit as UnitDef}
use Rattle.bl_tree.specs.Program.{IsWellTyped}
use Rattle.bl_effects.specs.Rules.{Passes}
use Rattle.bl_ctext_semantics.specs.Faults.{WellFormed}
use Rattle.bl_machine.specs.declared.machine.Activity.{Activity as InMachine}
use Rattle.bl_machine.specs.Machines.{AreActivitiesOf}
use Rattle.bl_emit_spec.specs.Lent.{lent_unit}
use Rattle.bl_emit_laws.specs.Kept.{shown_file}
use Rattle.bl_emit_laws.specs.Counters.Ifs.{EachFunctionHasIfs}
use Rattle.bl_emit_laws.specs.Counters.Own.{FunctionsOwn}

-- the well-formed file written of a program that passes the rules has one function and one struct for each activity with an instance. No other function names
-- its counters
abbrev pub FilesOwn : Program → Type 0
FilesOwn program =
    (machine : List InMachine) (unit : UnitDef) → IsWellTyped program.structs program.units program.entry → Passes program.units →
    AreActivitiesOf program.units machine → slice_get program.units program.entry ≡ Some (lent_unit unit) → WellFormed (shown_file program unit machine) →
    FunctionsOwn program.structs program.units program.entry (shown_file program unit machine)

-- the functions of activities with instances have one `if` for each block of the machine, in the well-formed file of a program that passes the rules
abbrev pub FilesHaveIfs : Program → Type 0
FilesHaveIfs program =
    (machine : List InMachine) (unit : UnitDef) → IsWellTyped program.structs program.units program.entry → Passes program.units →
    AreActivitiesOf program.units machine → slice_get program.units program.entry ≡ Some (lent_unit unit) → WellFormed (shown_file program unit machine) →
    EachFunctionHasIfs program.structs program.units program.entry machine (shown_file program unit machine)
