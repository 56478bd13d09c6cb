-- What holds of the files that jobs read, and of what they run.
use Rattle.std.specs.Prelude.{ℕ, ◌≤◌, List, Option}
use Rattle.bl_top_commands.specs.Calls.{Output}
use Rattle.bl_top_commands.specs.Reads.{FileRead, Reads}
use Rattle.bl_top_commands.specs.Rows.{Streams}
use Rattle.bl_top_commands.specs.Sources.{IsProgramOfSource, RunsAs}
use Rattle.bl_top_commands.specs.Traces.{HasCourse}
use Rattle.bl_top_commands.specs.declared.status.Status.{Status}
use Rattle.bl_rows_stream.specs.Streams.{Course}
use Rattle.bl_tree.specs.declared.program.Program.{Program}
use Rattle.bl_top_args.specs.Jobs.{Word}

-- files that are left as they are keep the limits within which a job reads them
abbrev pub KeptFilesAreWithinLimits : Type 0
KeptFilesAreWithinLimits = (files : List FileRead) (left : Word → Option (List ℕ)) → Reads files left left

-- what runs the program of a source runs the source
abbrev pub ProgramsRunAsTheirSource : Type 0
ProgramsRunAsTheirSource = (left : Option (List ℕ)) (program : Program) (course : Course) → IsProgramOfSource left program →
    HasCourse program.structs program.units program.entry course → RunsAs left course

-- how a run over rows ends holds too where the faults of their file are counted from before it
abbrev pub FaultsCountFromBefore : Type 0
FaultsCountFromBefore = (course : Course) (left rest : Option (List ℕ)) (first second last : ℕ) (out : Output) (ended : Status) (line : List ℕ) →
    first ≤ second → Streams course left rest (record { before = second; after = last }) out ended line →
    Streams course left rest (record { before = first; after = last }) out ended line
