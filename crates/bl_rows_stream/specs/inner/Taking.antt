-- How a file of rows stands whose rows are gathered.
use Rattle.std.specs.Prelude.{◌≡◌, ℕ, ◌≤◌, ℤ, List, length, Option, Some, None}
use Rattle.bl_tree.specs.declared.row.Column.{Column}
use Rattle.bl_rows.specs.Reading.{Reading, empty_reading, rows_in}
use Rattle.bl_rows.specs.declared.fault.RowFault.{RowFault}
use Rattle.bl_rows_stream.specs.Gathered.{Gathers}
use Rattle.bl_rows_stream.specs.Streams.{HasRead}
use Rattle.bl_rows_stream.specs.declared.gathered.RowsEnd.{RowsEnd}
use Rattle.bl_rows_stream.specs.declared.gathered.RowsEnd.TheVariants.{Read}
use Rattle.bl_rows_stream.specs.inner.Going.{HasFed}

-- these bytes were read without a fault, and their rows were gathered
pub record Taken (ins : List Column) (all left : Option (List ℕ)) (reader : Reading) (rows : List (List ℤ)) : Type 0 where
  pub read : List ℕ
  pub has_read : HasRead all read left
  pub fed : HasFed ins read reader
  pub are : rows ≡ rows_in (empty_reading ins) read
  pub low : reader.at.lines ≤ 1000000
  pub short : length reader.line ≤ 65536

-- a fault ends the rows
abbrev pub at_fault : Option RowFault → Option RowsEnd
at_fault None = None
at_fault (Some fault) = Some (Read (Some fault))

-- a piece of the file has left these rows taken, or the rows have ended
abbrev pub TakesOn : List Column → Option (List ℕ) → Option (List ℕ) → Reading → List (List ℤ) → Option RowsEnd → Type 0
TakesOn ins all left reader rows None = Taken ins all left reader rows
TakesOn ins all left reader rows (Some end) = Gathers ins all left rows end
