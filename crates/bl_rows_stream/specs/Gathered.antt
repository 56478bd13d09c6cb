-- The rows of a file, gathered before any of them is used.
use Rattle.std.specs.Prelude.{◌≡◌, ℕ, ℤ, List, ◌++◌, Option, None}
use Rattle.bl_tree.specs.declared.row.Column.{Column}
use Rattle.bl_tree.specs.declared.row.Last.{Last}
use Rattle.bl_tree.specs.declared.row.Last.TheVariants as last
use Rattle.bl_rows.specs.Reading.{empty_reading, fault_in, rows_in, rows_of}
use Rattle.bl_rows.specs.declared.fault.RowFault.{RowFault}
use Rattle.bl_rows_stream.specs.Streams.{AreLeft, HasRead, finish_of}
use Rattle.bl_rows_stream.specs.declared.finish.Finish.{Finish}
use Rattle.bl_rows_stream.specs.declared.finish.Finish.TheVariants as finish
use Rattle.bl_rows_stream.specs.declared.gathered.RowsEnd.{RowsEnd}
use Rattle.bl_rows_stream.specs.declared.gathered.RowsEnd.TheVariants.{Read, Unread}

-- the first rows are a prefix of all
pub record LeadsTo (first all : List (List ℤ)) : Type 0 where
  pub later : List (List ℤ)
  pub are : all ≡ first ++ later

-- what was gathered of the bytes left of a file, what is then left of it, and how its rows came to an end
pub data Gathers (ins : List Column) (left rest : Option (List ℕ)) (rows : List (List ℤ)) : RowsEnd → Type 0 where
  -- the rows of the whole file up to its first bad line, with the fault of that line
  whole : {fault : Option RowFault} (bytes : List ℕ) → AreLeft left bytes → rows ≡ (rows_of bytes ins).rows → fault ≡ (rows_of bytes ins).fault →
      Gathers ins left rest rows (Read fault)
  -- the file failed after the bytes that it handed over, whose complete lines are good: their rows are gathered, a prefix of the file's rows
  broken : (read : List ℕ) → HasRead left read rest → fault_in (empty_reading ins) read ≡ None → rows ≡ rows_in (empty_reading ins) read →
      ((more : List ℕ) → LeadsTo rows (rows_of (read ++ more) ins).rows) → Gathers ins left rest rows Unread

-- how a run ends, from its end over the gathered rows: a trap or an end among them decides
abbrev pub finish_over : Last → RowsEnd → Finish
finish_over how (Read fault) = finish_of how fault
finish_over last.Open Unread = finish.ReadFault
finish_over last.Ended Unread = finish.Done
finish_over last.Trap Unread = finish.Trapped
