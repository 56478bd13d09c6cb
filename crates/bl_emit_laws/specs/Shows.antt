-- What the C file that is written of a compiled program shows.
use Rattle.std.specs.Prelude.{◌≡◌, List, Some, slice_get}
use Rattle.bl_tree.specs.declared.program.Program.{Program}
use Rattle.bl_tree.specs.declared.tree.Unit.{Unit as UnitDef}
use Rattle.bl_ctext_semantics.specs.Faults.{WellFormed}
use Rattle.bl_ctree.specs.Instances.{setting_of}
use Rattle.bl_machine.specs.declared.machine.Activity.{Activity as InMachine}
use Rattle.bl_emit_functions_laws_simulation.specs.Units.{NoneOverlaps}
use Rattle.bl_emit_spec_laws.specs.Calls.Laws.{ActivitiesSimulate, CompilationContext}
use Rattle.bl_emit_spec_laws_files.specs.Files.{FileShows}
use Rattle.bl_emit_spec.specs.Lent.{lent_unit}
use Rattle.bl_emit_laws.specs.Kept.{activities_in, shown_file}

-- the well-formed file of a compiled program shows the traces of runs by rules, if the functions of all activities simulate passes
abbrev pub WrittenShows : Program → Type 0
WrittenShows program =
    (machine : List InMachine) (unit : UnitDef) →
    CompilationContext program.structs program.units program.entry machine (activities_in program machine) →
    slice_get program.units program.entry ≡ Some (lent_unit unit) → NoneOverlaps program.units →
    ActivitiesSimulate program.structs program.units program.entry machine (activities_in program machine) →
    WellFormed (shown_file program unit machine) →
    FileShows (setting_of program.structs program.units program.entry) (activities_in program machine) unit (shown_file program unit machine)
