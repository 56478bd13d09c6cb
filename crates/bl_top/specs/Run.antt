-- How `run` ends.
use Rattle.std.specs.Prelude.{ℕ, List, Option}
use Rattle.bl_top_commands.specs.Calls.{Call}
use Rattle.bl_top_commands.specs.Reads.{LeftBehind, source_limit}
use Rattle.bl_top_commands.specs.Refusals.{IsNotAccepted}
use Rattle.bl_top_commands.specs.Rows.{RunsOver}
use Rattle.bl_top_commands.specs.Sources.{RunsAs}
use Rattle.bl_top_commands.specs.declared.status.Status.{Status}
use Rattle.bl_io.specs.Left.{IsKept}
use Rattle.bl_rows_stream.specs.Streams.{Course}
use Rattle.bl_top_args.specs.Jobs.{Word}

-- the status with which a source is run over a file of rows, and the lines for `notes`
pub data RunEnds (c : Call) (source rows : Word) : Status → List ℕ → Type 0 where
  -- over the rows that are left once the source was read, by the one trace of its program
  ran : {ended : Status} {line : List ℕ} (course : Course) → RunsAs (c.left source) course →
      (between : Word → Option (List ℕ)) → LeftBehind source_limit source c.left between →
      RunsOver course (between rows) (c.rest rows) (c.file rows) c.out ended line → RunEnds c source rows ended line
  stopped : {ended : Status} {line : List ℕ} → IsNotAccepted (c.left source) (c.file source) ended line → IsKept c.out.before c.out.after →
      RunEnds c source rows ended line
