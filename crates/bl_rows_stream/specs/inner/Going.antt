-- How a run stands between two pieces of its file, and how a piece leaves it.
use Rattle.std.specs.Prelude.{◌≡◌, ◌⊎◌, ℕ, ◌+◌, ◌*◌, ◌≤◌, ℤ, Bool, List, ◌++◌, length, Option, Some, None, true, false}
use Rattle.bl_tree.specs.declared.row.Column.{Column}
use Rattle.bl_tree.specs.declared.row.Last.{Last}
use Rattle.bl_tree.specs.declared.row.Last.TheVariants.{Open, Ended, Trap}
use Rattle.bl_ctext_semantics.specs.Cells.{inputs_of, outputs_of}
use Rattle.bl_ctext_semantics.specs.Parts.{Parts}
use Rattle.bl_crun.specs.Running.{Running}
use Rattle.bl_io.specs.Held.{Appends}
use Rattle.bl_rows.specs.Lines.{unfinished, whole_lines}
use Rattle.bl_rows.specs.Reading.{Reading, empty_reading, fault_in, led_by_rows, rows_after, rows_in, rows_of}
use Rattle.bl_rows.specs.declared.fault.RowFault.{RowFault}
use Rattle.bl_rows_stream.specs.Reports.{HasRun, after_rows, report_of}
use Rattle.bl_rows_stream.specs.Streams.{AppendsFront, HasRead, Reported, course_from, finish_of, last_over, last_so_far, report_over}
use Rattle.bl_rows_stream.specs.declared.finish.Finish.{Finish}
use Rattle.bl_rows_stream.specs.declared.finish.Finish.TheVariants as finish
use Rattle.bl_rows_stream.specs.declared.finish.Progress.{Progress}
use Rattle.bl_rows_stream.specs.declared.finish.Progress.TheVariants as progress
use Rattle.bl_rows_stream.specs.declared.ticks.Report.{Report}
use Rattle.bl_rows_stream.specs.declared.pieces.Session.{Session}

-- a reader that has read these bytes, in which there is no fault
pub record HasFed (ins : List Column) (read : List ℕ) (reader : Reading) : Type 0 where
  pub told : (rest : List ℕ) → rows_of (read ++ rest) ins ≡ led_by_rows (rows_in (empty_reading ins) read) (rows_after reader rest)
  pub rows : (more : List ℕ) → rows_in (empty_reading ins) (read ++ more) ≡ rows_in (empty_reading ins) read ++ rows_in reader more
  pub fault : (more : List ℕ) → fault_in (empty_reading ins) (read ++ more) ≡ fault_in reader more
  pub good : fault_in (empty_reading ins) read ≡ None
  pub running : reader.ended ≡ false
  -- the whole lines are counted, and the bytes of the unfinished one are kept
  pub lines : reader.at.lines ≡ length (whole_lines read)
  pub line : reader.line ≡ unfinished read

-- how far a reader has come: no line has more than 65,536 bytes and a line feed
abbrev pub reach : Reading → ℕ
reach reader = reader.at.lines * 65537 + length reader.line

-- the most bytes that a reader can take: 1,000,000 lines and the front of no other
abbrev pub most_reach : ℕ
most_reach = 1000000 * 65537 + 65536

-- the state of a live runner: the numbers of its cells, and whether its start hasn't trapped
pub record Start : Type 0 where
  pub cells : List ℤ
  pub ready : Bool

-- a live runner of a file in this state
abbrev pub runner_at : Start → Parts → Running
runner_at start file = record { parts = file; cells = start.cells; ready = start.ready; live = true }

-- the state of a runner
abbrev pub runner_start : Running → Start
runner_start r = record { cells = r.cells; ready = r.ready }

-- these bytes were read, their rows have run, and the report of them was written
pub record RunStands (report : Report) (start : Start) (file : Parts) (read : List ℕ) (before : Option (List ℕ)) (s : Session) (r : Running)
    (now : Option (List ℕ)) : Type 0 where
  pub fed : HasFed (inputs_of file) read s.reader
  pub runs : r ≡ after_rows (runner_at start file) (rows_in (empty_reading (inputs_of file)) read)
  pub parts : r.parts ≡ file
  pub live : r.live ≡ true
  pub low : s.reader.at.lines ≤ 1000000
  pub short : length s.reader.line ≤ 65536
  pub running : last_so_far (course_from (runner_at start file)) read ≡ Open
  pub done : s.ticks.done ≡ length (rows_in (empty_reading (inputs_of file)) read)
  pub reports : s.ticks.report ≡ report
  pub outputs : length s.ticks.outputs ≡ length (outputs_of file)
  pub written : Appends before (report_of report (runner_at start file) (rows_in (empty_reading (inputs_of file)) read)) now

-- how a run over these bytes ends
pub data RunEnds (report : Report) (first : Running) (bytes : List ℕ) (before after : Option (List ℕ)) (now : Running) : Finish → Type 0 where
  whole : {ended : Finish} →
      ended ≡ finish_of (last_over (course_from first) bytes) (rows_of bytes (inputs_of first.parts)).fault →
      Appends before (report_over report first bytes) after → HasRun first (rows_of bytes (inputs_of first.parts)).rows now →
      RunEnds report first bytes before after now ended
  stopped : {ended : Finish} → (ended ≡ finish.WriteFault) ⊎ (ended ≡ finish.NoMemory) →
      AppendsFront before (report_over report first bytes) after → RunEnds report first bytes before after now ended

-- how the rows of a piece leave a run: open, or over
abbrev pub progress_of : Last → Option RowFault → Progress
progress_of Open None = progress.Open
progress_of Open (Some fault) = progress.Over (finish_of Open (Some fault))
progress_of Ended fault = progress.Over finish.Done
progress_of Trap fault = progress.Over finish.Trapped

-- a piece with which these bytes are read has left the run in this state
abbrev pub Leaves : Report → Start → Parts → List ℕ → Option (List ℕ) → Session → Running → Option (List ℕ) → Progress → Type 0
Leaves report start file read before s r now progress.Open = RunStands report start file read before s r now
Leaves report start file read before s r now (progress.Over ended) =
    (rest : List ℕ) → RunEnds report (runner_at start file) (read ++ rest) before now r ended

-- a run that goes on, over a file of which so much is left
pub record Going (report : Report) (start : Start) (file : Parts) (all before : Option (List ℕ)) (s : Session) (r : Running)
    (left now : Option (List ℕ)) : Type 0 where
  pub read : List ℕ
  pub has_read : HasRead all read left
  pub stands : RunStands report start file read before s r now

-- a piece of the file has left the run going on, or has ended it
abbrev pub GoesOrEnds : Report → Start → Parts → Option (List ℕ) → Option (List ℕ) → Session → Running → Option (List ℕ)
    → Option (List ℕ) →
    Progress → Type 0
GoesOrEnds report start file all before s r rest now progress.Open = Going report start file all before s r rest now
GoesOrEnds report start file all before s r rest now (progress.Over ended) = Reported report (runner_at start file) all rest before now r ended
