-- What holds of what is built of a source, and of what runs a source.
use Rattle.std.specs.Prelude.{◌≡◌, ◌⊎◌, ℕ, ◌<◌, ◌≤◌, List, length, Option, Some}
use Rattle.bl_ctext_semantics_laws_places.specs.Behaviour.{Behaviour}
use Rattle.bl_ctext_semantics_laws_places.specs.Bytes.{Behaves}
use Rattle.bl_top_commands.specs.Calls.{Call, Count, Output}
use Rattle.bl_top_commands.specs.Exec.{ExecEnds, Rejects}
use Rattle.bl_top_commands.specs.Notes.{line_of}
use Rattle.bl_top_commands.specs.Reads.{longest_text}
use Rattle.bl_top_commands.specs.Rows.{Streams}
use Rattle.bl_top_commands.specs.Sources.{IsTextOf, IsTextOfProgram, RunsAs}
use Rattle.bl_top_commands.specs.Traces.{HasCourse, course_by}
use Rattle.bl_top_commands.specs.declared.status.Status.{Status}
use Rattle.bl_top_commands.specs.declared.status.Status.TheVariants as status
use Rattle.bl_rows_stream.specs.Streams.{Course}
use Rattle.bl_top.specs.Built.{BuiltEnds}
use Rattle.bl_tree.specs.declared.tree.StructDef.{StructDef}
use Rattle.bl_tree.specs.declared.tree.Unit.{Unit as UnitDef}
use Rattle.bl_top_args.specs.Jobs.{Word}

-- what is run of a text that was built has the one trace of the program that it was built of
abbrev pub BuiltTextsHaveCourses : Type 0
BuiltTextsHaveCourses = (structs : List StructDef) (units : List UnitDef) (entry : ℕ) (text : List ℕ) (behaviour : Behaviour) →
    IsTextOfProgram structs units entry text → Behaves text behaviour → HasCourse structs units entry (course_by behaviour)

-- a run of a text that was built of a source has the one trace of the source's program
abbrev pub BuiltTextsRunAsTheirSource : Type 0
BuiltTextsRunAsTheirSource = (left : Option (List ℕ)) (text : List ℕ) (behaviour : Behaviour) →
    IsTextOf left text → Behaves text behaviour → RunsAs left (course_by behaviour)

-- a text that was built is rejected for its length alone, or for want of memory
abbrev pub BuiltTextsAreRejectedForLength : Type 0
BuiltTextsAreRejectedForLength = (structs : List StructDef) (units : List UnitDef) (entry : ℕ) (text : List ℕ) (ended : Status) (line : List ℕ) →
    IsTextOfProgram structs units entry text → Rejects text ended line →
    (longest_text < length text) ⊎ ((ended ≡ status.NoMemory) × (line ≡ line_of status.NoMemory))

-- `exec` runs each text that was built and isn't too long
abbrev pub BuiltTextsAreRun : Type 0
BuiltTextsAreRun = (left : Option (List ℕ)) (built : List ℕ) (c : Call) (text rows : Word) (ended : Status) (line : List ℕ) →
    IsTextOf left built → c.left text ≡ Some built → length built ≤ longest_text →
    ExecEnds c text rows ended line → BuiltEnds left c text rows ended line

-- a run ends by each course that runs a source as it ends by one
abbrev pub SourcesRunInOneWay : Type 0
SourcesRunInOneWay = (source : List ℕ) (course other : Course) → RunsAs (Some source) course → RunsAs (Some source) other →
    (left rest : Option (List ℕ)) (rows : Count) (out : Output) (ended : Status) (line : List ℕ) →
    Streams course left rest rows out ended line → Streams other left rest rows out ended line
