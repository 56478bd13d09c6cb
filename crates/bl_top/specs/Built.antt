-- How `exec` ends of a text that `build` wrote.
use Rattle.std.specs.Prelude.{ℕ, List, Option}
use Rattle.bl_top_commands.specs.Calls.{Call, HasRisen}
use Rattle.bl_top_commands.specs.Notes.{line_of}
use Rattle.bl_top_commands.specs.Reads.{LeftBehind, text_limit}
use Rattle.bl_top_commands.specs.Rows.{RunsOver}
use Rattle.bl_top_commands.specs.Sources.{RunsAs}
use Rattle.bl_top_commands.specs.declared.status.Status.{Status}
use Rattle.bl_top_commands.specs.declared.status.Status.TheVariants as status
use Rattle.bl_io.specs.Left.{IsKept}
use Rattle.bl_rows_stream.specs.Streams.{Course}
use Rattle.bl_top_args.specs.Jobs.{Word}

-- the status with which the C text of a source is run over a file of rows, and the lines for `notes`: it isn't rejected
pub data BuiltEnds (source : Option (List ℕ)) (c : Call) (text rows : Word) : Status → List ℕ → Type 0 where
  -- over the rows that are left once the text was read, by the one trace of the source's program
  ran : {ended : Status} {line : List ℕ} (course : Course) → RunsAs source course →
      (between : Word → Option (List ℕ)) → LeftBehind text_limit text c.left between →
      RunsOver course (between rows) (c.rest rows) (c.file rows) c.out ended line → BuiltEnds source c text rows ended line
  unread : HasRisen (c.file text) → IsKept c.out.before c.out.after → BuiltEnds source c text rows status.ReadFault (line_of status.ReadFault)
  want : IsKept c.out.before c.out.after → BuiltEnds source c text rows status.NoMemory (line_of status.NoMemory)
