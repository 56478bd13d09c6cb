-- How `walk` ends.
use Rattle.std.specs.Prelude.{◌≡◌, ◌≢◌, ℕ, ℤ, List, [], ◌++◌, Option, Some, slice_get}
use Rattle.bl_top_commands.specs.Calls.{Call, Output}
use Rattle.bl_top_commands.specs.Reads.{LeftBehind, source_limit}
use Rattle.bl_top_commands.specs.Refusals.{IsNotAccepted}
use Rattle.bl_top_commands.specs.Rows.{Streams}
use Rattle.bl_top_commands.specs.Sources.{IsSource, RunsAs}
use Rattle.bl_top_commands.specs.declared.status.Status.{Status}
use Rattle.bl_top_commands.specs.declared.status.Status.TheVariants as status
use Rattle.bl_io.specs.Held.{Appends}
use Rattle.bl_io.specs.Left.{IsKept}
use Rattle.bl_rows.specs.Text.{text_of}
use Rattle.bl_rules.specs.Accepted.{HasProgram}
use Rattle.bl_rows_stream.specs.Gathered.{Gathers}
use Rattle.bl_rows_stream.specs.Streams.{Course}
use Rattle.bl_rows_stream.specs.declared.gathered.RowsEnd.{RowsEnd}
use Rattle.bl_tree.specs.declared.place.Place.{Place}
use Rattle.bl_tree.specs.declared.program.Program.{Program}
use Rattle.bl_tree.specs.declared.row.Trace.{Trace}
use Rattle.bl_tree.specs.declared.tree.Unit.{Unit as UnitDef}
use Rattle.bl_tree.specs.Ports.{input_columns, output_columns}
use Rattle.bl_walk.specs.Lines.{tick_lines_from}
use Rattle.bl_walk.specs.Walks.{HasWalked}
use Rattle.bl_top_args.specs.Jobs.{Word}

-- the program of a source was walked by the seed over the rows left of a file. The text of its trace grew on `out`, and the lines tell the steps of the ticks
-- begun
pub record TellsSteps (source left rest : Option (List ℕ)) (seed : ℕ) (out : Output) (lines : List ℕ) : Type 0 where
  pub text : List ℕ
  pub of_source : IsSource source text
  pub program : Program
  pub has : HasProgram text program
  pub unit : UnitDef
  pub is_entry : slice_get program.units program.entry ≡ Some unit
  pub gathered : List (List ℤ)
  pub end : RowsEnd
  pub gathers : Gathers (input_columns unit) left rest gathered end
  pub trace : Trace
  pub lists : List (List Place)
  pub walked : HasWalked program.structs program.units program.entry seed gathered trace lists
  pub grew : Appends out.before (text_of trace (output_columns unit)) out.after
  pub told : lines ≡ tick_lines_from 1 lists

-- the lines for `notes` before that of the status: those of the steps, unless the text of the trace couldn't be written or memory was
-- refused before
pub data WalkNotes (source left rest : Option (List ℕ)) (seed : ℕ) (out : Output) : Status → List ℕ → Type 0 where
  steps : {ended : Status} {lines : List ℕ} → ended ≢ status.WriteFault → TellsSteps source left rest seed out lines →
      WalkNotes source left rest seed out ended lines
  unwritten : WalkNotes source left rest seed out status.WriteFault []
  want : WalkNotes source left rest seed out status.NoMemory []

-- the status with which a source is walked by a seed over a file of rows, and the lines for `notes`
pub data WalkEnds (c : Call) (source rows : Word) (seed : ℕ) : Status → List ℕ → Type 0 where
  -- over the rows that are left once the source was read, by the one trace of its program
  ran : {ended : Status} {lines line : List ℕ} (course : Course) → RunsAs (c.left source) course →
      (between : Word → Option (List ℕ)) → LeftBehind source_limit source c.left between →
      Streams course (between rows) (c.rest rows) (c.file rows) c.out ended line →
      WalkNotes (c.left source) (between rows) (c.rest rows) seed c.out ended lines → WalkEnds c source rows seed ended (lines ++ line)
  stopped : {ended : Status} {line : List ℕ} → IsNotAccepted (c.left source) (c.file source) ended line → IsKept c.out.before c.out.after →
      WalkEnds c source rows seed ended line
