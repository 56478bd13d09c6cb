-- What a run over a file of rows leaves, and how it ends.
use Rattle.std.specs.Prelude.{◌≡◌, ◌⊎◌, ℕ, ◌+◌, ◌≤◌, ℤ, List, ◌++◌, length, take, Option, Some, None, IfSome}
use Rattle.bl_tree.specs.declared.row.Column.{Column}
use Rattle.bl_tree.specs.declared.row.Last.{Last}
use Rattle.bl_tree.specs.declared.row.Last.TheVariants.{Open, Ended, Trap}
use Rattle.bl_ctext_semantics.specs.Cells.{inputs_of, outputs_of}
use Rattle.bl_ctext_semantics.specs.Parts.{Parts}
use Rattle.bl_ctext_semantics.specs.Trace.{c_trace}
use Rattle.bl_io.specs.Held.{Appends}
use Rattle.bl_io.specs.Left.{IsKept}
use Rattle.bl_io.specs.declared.pieces.TheConstants.{PIECE}
use Rattle.bl_crun.specs.Running.{Running}
use Rattle.bl_rows.specs.Lines.{lines_of}
use Rattle.bl_rows.specs.Reading.{empty_reading, fault_in, rows_in, rows_of}
use Rattle.bl_rows.specs.Text.{text_of}
use Rattle.bl_rows.specs.declared.fault.RowFault.{RowFault}
use Rattle.bl_rows.specs.declared.fault.RowFault.TheVariants as fault
use Rattle.bl_rows_stream.specs.Reports.{HasRun, after_rows, report_of, trace_from}
use Rattle.bl_rows_stream.specs.declared.finish.Finish.{Finish}
use Rattle.bl_rows_stream.specs.declared.finish.Finish.TheVariants as finish
use Rattle.bl_rows_stream.specs.declared.ticks.Report.{Report}

-- a course: the columns of its rows, how it stands after rows, and the text that is shown of them
pub record Course : Type 0 where
  pub ins : List Column
  pub last : List (List ℤ) → Last
  pub text : List (List ℤ) → List ℕ

-- the course of a C file, which shows its trace
abbrev pub course_of : Parts → Course
course_of file = record {
  ins = inputs_of file;
  last = λ rows. (c_trace file rows).last;
  text = λ rows. text_of (c_trace file rows) (outputs_of file);
}

-- the course of a runner from its current state, which shows its trace
abbrev pub course_from : Running → Course
course_from r = record {
  ins = inputs_of r.parts;
  last = λ rows. (trace_from r rows).last;
  text = λ rows. text_of (trace_from r rows) (outputs_of r.parts);
}

-- how the course stands after the rows of a whole file, up to its first bad line
abbrev pub last_over : Course → List ℕ → Last
last_over c bytes = c.last (rows_of bytes c.ins).rows

-- the whole text of a course
abbrev pub text_over : Course → List ℕ → List ℕ
text_over c bytes = c.text (rows_of bytes c.ins).rows

-- how a course stands after the rows of complete lines
abbrev pub last_so_far : Course → List ℕ → Last
last_so_far c bytes = c.last (rows_in (empty_reading c.ins) bytes)

-- the text of a course that is still open
abbrev pub text_so_far : Course → List ℕ → List ℕ
text_so_far c bytes = c.text (rows_in (empty_reading c.ins) bytes)

-- a bad line tells its number
abbrev pub at_bad_line : RowFault → Finish
at_bad_line (fault.BadHeader line) = finish.BadRows line
at_bad_line (fault.BadRow line) = finish.BadRows line
at_bad_line (fault.LongLine line) = finish.BadRows line
at_bad_line fault.NoMemory = finish.NoMemory

-- how a run ends that is still open, by why the rows ended
abbrev pub while_open : Option RowFault → Finish
while_open None = finish.Done
while_open (Some fault) = at_bad_line fault

-- how a run ends by how its trace ends: a trap or an end before a bad line decides
abbrev pub finish_of : Last → Option RowFault → Finish
finish_of Open fault = while_open fault
finish_of Ended fault = finish.Done
finish_of Trap fault = finish.Trapped

-- the bytes held grew by a prefix of the text, where they are known
abbrev pub AppendsFront : Option (List ℕ) → List ℕ → Option (List ℕ) → Type 0
AppendsFront before text after = IfSome before (λ bytes. (n : ℕ) × (n ≤ length text) × (after ≡ Some (bytes ++ take n text)))

-- the bytes are what was left of a file, where its content is known
abbrev pub AreLeft : Option (List ℕ) → List ℕ → Type 0
AreLeft left bytes = IfSome left (λ all. all ≡ bytes)

-- these bytes of a file were handed over, and the others are left, where the file's content is known
abbrev pub HasRead : Option (List ℕ) → List ℕ → Option (List ℕ) → Type 0
HasRead all read now = IfSome all (λ bytes. (rest : List ℕ) × ((bytes ≡ read ++ rest) × (now ≡ Some rest)))

-- the file failed after the bytes that it handed over. Their complete lines are good, their rows leave the run open, and the text of these rows grew on `out`.
-- A trap, an end or a bad line among them decides instead
pub record Unread (c : Course) (left rest before after : Option (List ℕ)) : Type 0 where
  pub read : List ℕ
  pub handed_over : HasRead left read rest
  pub good : fault_in (empty_reading c.ins) read ≡ None
  pub running : last_so_far c read ≡ Open
  pub written : Appends before (text_so_far c read) after

-- what a run over the bytes left of a file leaves of the file and on `out`, and how it ends
pub data Streamed (c : Course) (left rest before after : Option (List ℕ)) : Finish → Type 0 where
  -- the whole text
  all : {ended : Finish} (bytes : List ℕ) → AreLeft left bytes → ended ≡ finish_of (last_over c bytes) (rows_of bytes c.ins).fault →
      Appends before (text_over c bytes) after → Streamed c left rest before after ended
  unread : Unread c left rest before after → Streamed c left rest before after finish.ReadFault
  -- a write of the text failed, or memory was refused, and a prefix of it grew
  front : {ended : Finish} (bytes : List ℕ) → AreLeft left bytes → (ended ≡ finish.WriteFault) ⊎ (ended ≡ finish.NoMemory) →
      AppendsFront before (text_over c bytes) after → Streamed c left rest before after ended

-- ---- any runner, and what is written of its run

-- what is written of a run over the rows of a whole file, up to its first bad line
abbrev pub report_over : Report → Running → List ℕ → List ℕ
report_over report r bytes = report_of report r (rows_of bytes (inputs_of r.parts)).rows

-- the rows of the lines that are whole in some first bytes
abbrev pub rows_so_far : Running → List ℕ → List (List ℤ)
rows_so_far r bytes = rows_in (empty_reading (inputs_of r.parts)) bytes

-- the file failed after the bytes that it handed over. Their complete lines are good, their rows have run and leave the run open, and the report of them grew
-- on `out`
pub record BreaksOff (report : Report) (r : Running) (left rest before after : Option (List ℕ)) (now : Running) : Type 0 where
  pub read : List ℕ
  pub handed : HasRead left read rest
  pub good : fault_in (empty_reading (inputs_of r.parts)) read ≡ None
  pub running : last_so_far (course_from r) read ≡ Open
  pub written : Appends before (report_of report r (rows_so_far r read)) after
  pub runner : now ≡ after_rows r (rows_so_far r read)

-- what a runner's run over the bytes left of a file leaves of the file, on `out` and of the runner, and how it ends
pub data Reported (report : Report) (r : Running) (left rest before after : Option (List ℕ)) (now : Running) : Finish → Type 0 where
  -- all rows up to the first bad line were run, or those up to the run's end, and all was written of them
  ran : {ended : Finish} (bytes : List ℕ) → AreLeft left bytes →
      ended ≡ finish_of (last_over (course_from r) bytes) (rows_of bytes (inputs_of r.parts)).fault →
      Appends before (report_over report r bytes) after → HasRun r (rows_of bytes (inputs_of r.parts)).rows now →
      Reported report r left rest before after now ended
  broken : BreaksOff report r left rest before after now → Reported report r left rest before after now finish.ReadFault
  -- a write failed, or memory was refused, and a prefix of the report grew
  cut : {ended : Finish} (bytes : List ℕ) → AreLeft left bytes → (ended ≡ finish.WriteFault) ⊎ (ended ≡ finish.NoMemory) →
      AppendsFront before (report_over report r bytes) after → Reported report r left rest before after now ended

-- ---- how far a file is read

-- the bytes of a file were handed over in pieces. So many lines at most were begun before the last piece, and one more at most with it
pub record StandsBehind (most : ℕ) (bytes : List ℕ) (now : Option (List ℕ)) : Type 0 where
  pub read : List ℕ
  pub piece : List ℕ
  pub rest : List ℕ
  pub are : bytes ≡ read ++ (piece ++ rest)
  pub few : length (lines_of read) ≤ most
  pub short : length piece ≤ PIECE
  pub within : length (lines_of (read ++ piece)) ≤ most + 1
  pub left : now ≡ Some rest

-- a file was read in pieces until one line more than so many was begun at most, where its content is known
abbrev pub ReadsLines : ℕ → Option (List ℕ) → Option (List ℕ) → Type 0
ReadsLines most before after = IfSome before (λ bytes. StandsBehind most bytes after)

-- ---- in step with the file

-- the bytes held grew by this text, and perhaps by more
abbrev pub Extends : Option (List ℕ) → List ℕ → Option (List ℕ) → Type 0
Extends before text after = IfSome before (λ bytes. (more : List ℕ) × (after ≡ Some (bytes ++ (text ++ more))))

-- the report of the rows that were handed over before the last piece was written
pub record KeepsUp (report : Report) (r : Running) (left rest before after : Option (List ℕ)) : Type 0 where
  pub read : List ℕ
  pub piece : List ℕ
  pub handed : HasRead left (read ++ piece) rest
  pub short : length piece ≤ PIECE
  pub written : Extends before (report_of report r (rows_so_far r read)) after

-- nothing was handed over before the header was written, and no piece before the report of the rows in all earlier ones
abbrev pub InStep : Report → Running → Option (List ℕ) → Option (List ℕ) → Option (List ℕ) → Option (List ℕ) → Type 0
InStep report r left rest before after = IsKept left rest ⊎ KeepsUp report r left rest before after
