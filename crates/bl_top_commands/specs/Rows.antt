-- How a run over a file of rows ends.
use Rattle.std.specs.Prelude.{◌≡◌, ◌⊎◌, ℕ, ◌≤◌, List, ◌++◌, length, Option}
use Rattle.bl_top_commands.specs.Calls.{Count, HasRisen, Output}
use Rattle.bl_top_commands.specs.Notes.{bad_rows_line, line_of}
use Rattle.bl_top_commands.specs.declared.status.Status.{Status}
use Rattle.bl_top_commands.specs.declared.status.Status.TheVariants as status
use Rattle.bl_io.specs.Held.{Appends}
use Rattle.bl_io.specs.Left.{IsKept}
use Rattle.bl_io.specs.declared.pieces.TheConstants.{PIECE}
use Rattle.bl_rows.specs.Reading.{rows_of}
use Rattle.bl_rows_stream.specs.Streams.{AppendsFront, AreLeft, Course, Extends, HasRead, Unread, finish_of, last_over, text_over, text_so_far}
use Rattle.bl_rows_stream.specs.declared.finish.Finish.{Finish}
use Rattle.bl_rows_stream.specs.declared.finish.Finish.TheVariants as finish

-- the course ends so over these bytes of rows, and its whole text grew on `out`
pub record Ran (course : Course) (left : Option (List ℕ)) (out : Output) (how : Finish) : Type 0 where
  pub bytes : List ℕ
  pub are_left : AreLeft left bytes
  pub ends : finish_of (last_over course bytes) (rows_of bytes course.ins).fault ≡ how
  pub grew : Appends out.before (text_over course bytes) out.after

-- a prefix of the course's text grew
pub record RanInPart (course : Course) (left : Option (List ℕ)) (out : Output) : Type 0 where
  pub bytes : List ℕ
  pub are_left : AreLeft left bytes
  pub grew : AppendsFront out.before (text_over course bytes) out.after

-- the status and line with which a course ends over the rows left of a file. The rest of the file is left then, and a text grew on `out`
pub data Streams (course : Course) (left rest : Option (List ℕ)) (rows : Count) (out : Output) : Status → List ℕ → Type 0 where
  -- the rows are used up, or the run has ended before that
  done : Ran course left out finish.Done → Streams course left rest rows out status.Ok (line_of status.Ok)
  trapped : Ran course left out finish.Trapped → Streams course left rest rows out status.Trapped (line_of status.Trapped)
  -- the run could go on at the first bad line
  bad_rows : (line : ℕ) → Ran course left out (finish.BadRows line) → Streams course left rest rows out status.BadRows (bad_rows_line line)
  -- nothing of what the file handed over has stopped the run
  unread : Unread course left rest out.before out.after → HasRisen rows → Streams course left rest rows out status.ReadFault (line_of status.ReadFault)
  unwritten : RanInPart course left out → HasRisen out.faults → Streams course left rest rows out status.WriteFault (line_of status.WriteFault)
  no_memory : RanInPart course left out → Streams course left rest rows out status.NoMemory (line_of status.NoMemory)

-- ---- in step with the rows

-- all pieces of the rows that were handed over but the last are told: the course's text of the rows in them has grown on `out`, and perhaps more
pub record IsOnePieceAhead (course : Course) (left rest : Option (List ℕ)) (out : Output) : Type 0 where
  pub told : List ℕ
  pub piece : List ℕ
  pub handed_over : HasRead left (told ++ piece) rest
  pub short : length piece ≤ PIECE
  pub grew : Extends out.before (text_so_far course told) out.after

-- a run keeps in step with its rows: none of their bytes was handed over, or one piece at most that isn't told
abbrev pub IsInStep : Course → Option (List ℕ) → Option (List ℕ) → Output → Type 0
IsInStep course left rest out = IsKept left rest ⊎ IsOnePieceAhead course left rest out

-- the status and line with which a course ends over the rows left of a file, in step with them
pub record RunsOver (course : Course) (left rest : Option (List ℕ)) (rows : Count) (out : Output) (ended : Status) (line : List ℕ) : Type 0 where
  pub streams : Streams course left rest rows out ended line
  pub in_step : IsInStep course left rest out
