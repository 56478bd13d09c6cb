-- The written file shows the traces of runs of passes by rules.
use Rattle.std.proofs.Common.{List, sym, subst}
use Rattle.bl_tree.specs.declared.c.CFunc.{CFunc}
use Rattle.bl_tree.specs.declared.program.Program.{Program}
use Rattle.bl_ctext_semantics.specs.Parts.{Parts}
use Rattle.bl_ctext_semantics.specs.Tables.{no_entries}
use Rattle.bl_ctree.specs.Instances.{Setting, setting_of}
use Rattle.bl_emit_spec.specs.Activities.{remembers_any}
use Rattle.bl_emit_spec_laws.specs.Calls.Built.{Activities}
use Rattle.bl_emit_spec_laws.specs.Calls.Calls.{ActivitySimulates}
use Rattle.bl_emit_spec_laws_wellformed.specs.Closed.{NeededClosed}
use Rattle.bl_emit_spec_laws_files.specs.Files.{FileStands, FilesShow, FilesStand, known_after, known_at_tick}
use Rattle.bl_emit_laws.specs.Linked.{NeededSimulate}
use Rattle.bl_emit_spec_laws_files.specs.States.States.{StateKept, StatesAreKept}
use Rattle.bl_emit_laws.specs.Kept.{FileEnds, FilesEnd, FramesAreDeclared, RunsAreFound, activities_in, functions_before, structs_before, shown_file}
use Rattle.bl_emit_laws.specs.Shows.{WrittenShows}

pub written_shows : (program : Program) → FramesAreDeclared program → RunsAreFound → FilesEnd program →
    NeededClosed program.structs program.units program.entry → NeededSimulate program.structs program.units program.entry → StatesAreKept →
    FilesStand → FilesShow → WrittenShows program
written_shows program declared found ends closed come states stand show machine unit compiled there apart all formed =
    show program.structs program.units program.entry machine activities unit (known_at_tick unit functions) file compiled there
    (stand.comes w activities program.entry unit functions comes) stands kept
  where
    w : Setting
    w = setting_of program.structs program.units program.entry

    activities : Activities
    activities = activities_in program machine

    file : Parts
    file = shown_file program unit machine

    functions : List CFunc
    functions = functions_before program machine

    over : FileEnds program machine unit
    over = ends machine unit compiled.well_typed compiled.agrees there

    comes : ActivitySimulates (setting_of program.structs program.units program.entry) (activities_in program machine) program.entry
        (known_after no_entries (functions_before program machine)) 0
    comes = come machine (activities_in program machine) program.entry 0 compiled apart all (closed.entry_is compiled.well_typed)

    stands : FileStands program.structs unit (remembers_any (activities_in program machine program.entry))
        (known_at_tick unit (functions_before program machine)) (shown_file program unit machine)
    stands =
        subst
        (FileStands program.structs unit (remembers_any (activities_in program machine program.entry))
        (known_at_tick unit (functions_before program machine)))
        (sym over.is)
        (stand.stands program.structs unit (remembers_any (activities_in program machine program.entry)) (structs_before program machine)
        (functions_before program machine) over.none)

    kept : StateKept (setting_of program.structs program.units program.entry) (activities_in program machine) unit (shown_file program unit machine)
    kept =
        states program.structs program.units program.entry machine (activities_in program machine) unit (shown_file program unit machine) compiled
        (found program.structs program.units program.entry machine (activities_in program machine) compiled) there formed
        (declared machine unit compiled.well_typed compiled.passes compiled.agrees there)
