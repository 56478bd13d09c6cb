-- What the bytes of a row file say: the rows up to the first bad line, and that line's fault.
use Rattle.std.specs.Prelude.{ℕ, ◌+◌, List, [], ◌∷◌, ◌++◌, length, ℤ, Bool, false, nat_lt, nat_le, Option, Some, None, Result, Ok, Err, ◌≡◌, if◌then◌else◌}
use Rattle.bl_tree.specs.declared.row.Column.{Column}
use Rattle.bl_rows.specs.declared.fault.RowFault.{RowFault}
use Rattle.bl_rows.specs.declared.fault.RowFault.TheVariants.{BadHeader, BadRow, LongLine, NoMemory}
use Rattle.bl_rows.specs.declared.verdict.Verdict.{Verdict}
use Rattle.bl_rows.specs.declared.verdict.Verdict.TheVariants.{Passed, Header, Numbers, Bad}
use Rattle.bl_rows.specs.declared.verdict.RowPlace.{RowPlace}
use Rattle.bl_rows.specs.Lines.{lines_of, whole_lines, unfinished}
use Rattle.bl_rows.specs.Fields.{records_in, row_of, is_header}

-- how many lines a row file may have, and how many bytes a line
abbrev pub most_lines : ℕ
most_lines = 1000000

-- how many bytes a line has at most
abbrev pub longest_line : ℕ
longest_line = 65536

-- the position before the first line
abbrev pub at_start : RowPlace
at_start = record { lines = 0; ticks = None }

-- the number of the next line
abbrev pub line_number : RowPlace → ℕ
line_number at = at.lines + 1

-- a bad next line: of the header where that is still to come, else of a row
abbrev pub bad_line : Option ℕ → ℕ → RowFault
bad_line None line = BadHeader line
bad_line (Some t) line = BadRow line

-- the numbers of a row, or a bad row
abbrev pub numbers_or_bad : ℕ → Option (List ℤ) → Verdict
numbers_or_bad line None = Bad (BadRow line)
numbers_or_bad line (Some row) = Numbers row

-- the verdict on the one record of a line: the header, or the row of the next tick
abbrev pub judged_record : List Column → Option ℕ → ℕ → List (List ℕ) → Verdict
judged_record columns None line fields = if is_header columns fields then Header else Bad (BadHeader line)
judged_record columns (Some t) line fields = numbers_or_bad line (row_of columns (t + 1) fields)

-- what a line with these records is: one without a record is passed over, one with two is bad
abbrev pub judged_line : List Column → RowPlace → List (List (List ℕ)) → Verdict
judged_line columns at [] = Passed
judged_line columns at (fields ∷ []) = judged_record columns at.ticks (line_number at) fields
judged_line columns at (fields ∷ more ∷ others) = Bad (bad_line at.ticks (line_number at))

-- the fault of a next line that is one too many, or has too many bytes
abbrev pub over_limit : RowPlace → ℕ → Option RowFault
over_limit at size =
    if nat_le most_lines at.lines then Some (BadRow (line_number at))
    else if nat_lt longest_line size then Some (LongLine (line_number at))
    else None

-- the fault of an unfinished line that is one too many, or has too many bytes: an empty one has none
abbrev pub overrun : RowPlace → List ℕ → Option RowFault
overrun at [] = None
overrun at (b ∷ bytes) = over_limit at (length (b ∷ bytes))

-- a bad line where there is a fault, else what it was judged to be
abbrev pub bad_or : Option RowFault → Verdict → Verdict
bad_or (Some fault) found = Bad fault
bad_or None found = found

-- the verdict on the next line
unfoldable pub verdict : List Column → RowPlace → List ℕ → Verdict
verdict columns at line = bad_or (over_limit at (length line)) (judged_line columns at (records_in line))

-- one tick more
abbrev pub next_tick : Option ℕ → Option ℕ
next_tick None = None
next_tick (Some t) = Some (t + 1)

-- the position after a line
abbrev pub place_after : RowPlace → Verdict → RowPlace
place_after at Passed = record at { lines = at.lines + 1 }
place_after at Header = record { lines = at.lines + 1; ticks = Some 0 }
place_after at (Numbers row) = record { lines = at.lines + 1; ticks = next_tick at.ticks }
place_after at (Bad fault) = at

-- rows, where the reader stands after them, and the fault of the line that stopped it
pub record Scan : Type 0 where
  pub rows : List (List ℤ)
  pub at : RowPlace
  pub fault : Option RowFault

-- what a line adds before what the lines after it give
abbrev pub led_by_line : RowPlace → Verdict → Scan → Scan
led_by_line at Passed scan = scan
led_by_line at Header scan = scan
led_by_line at (Numbers row) scan = record scan { rows = row ∷ scan.rows }
led_by_line at (Bad fault) scan = record { rows = []; at = at; fault = Some fault }

-- lines in turn, up to the first bad one
abbrev pub scan : List Column → RowPlace → List (List ℕ) → Scan
scan columns at [] = record { rows = []; at = at; fault = None }
scan columns at (line ∷ lines) =
    led_by_line at (verdict columns at line) (scan columns (place_after at (verdict columns at line)) lines)

-- what row bytes give: the rows up to the first bad line, and that line's fault
pub record RowsRead : Type 0 where
  pub rows : List (List ℤ)
  pub fault : Option RowFault

-- a header that never came is a fault of the line after the last
abbrev pub missing_header : Option ℕ → ℕ → Option RowFault
missing_header None line = Some (BadHeader line)
missing_header (Some t) line = None

-- the fault of bytes that end: the one there was, or a missing header
abbrev pub fault_at_end : RowPlace → Option RowFault → Option RowFault
fault_at_end at (Some fault) = Some fault
fault_at_end at None = missing_header at.ticks (line_number at)

-- what lines give with nothing after them
abbrev pub read_to_end : Scan → RowsRead
read_to_end s = record { rows = s.rows; fault = fault_at_end s.at s.fault }

-- the rows of the bytes of a whole row file up to the first bad line, and that line's fault
unfoldable pub rows_of : List ℕ → List Column → RowsRead
rows_of bytes columns = read_to_end (scan columns at_start (lines_of bytes))

-- a reader between two pieces: its columns, its position, the unfinished line, the fault that stopped it, and whether the bytes have ended
pub record Reading : Type 0 where
  pub columns : List Column
  pub at : RowPlace
  pub line : List ℕ
  pub stop : Option RowFault
  pub ended : Bool

-- a reader that has read nothing
abbrev pub empty_reading : List Column → Reading
empty_reading columns = record { columns = columns; at = at_start; line = []; stop = None; ended = false }

-- what a fault leaves of what would be told
abbrev pub unless_stopped : Option RowFault → RowsRead → RowsRead
unless_stopped None told = told
unless_stopped (Some fault) told = record { rows = []; fault = Some fault }

-- what a reader still has to tell, where these bytes come and then the end
unfoldable pub rows_after : Reading → List ℕ → RowsRead
rows_after s bytes = unless_stopped s.stop (read_to_end (scan s.columns s.at (lines_of (s.line ++ bytes))))

-- the rows and the fault of the lines that a piece completes
abbrev pub scanned : Reading → List ℕ → Scan
scanned s piece = scan s.columns s.at (whole_lines (s.line ++ piece))

-- the first of two faults
abbrev pub earlier_fault : Option RowFault → Option RowFault → Option RowFault
earlier_fault (Some fault) later = Some fault
earlier_fault None later = later

-- the fault of a piece: of the first bad line that it makes whole, or of the line that it leaves unfinished and overrun
abbrev pub fault_of_scan : Scan → List ℕ → Option RowFault
fault_of_scan s rest = earlier_fault s.fault (overrun s.at rest)

-- the fault at which a reader stands after a piece, if any
unfoldable pub fault_in : Reading → List ℕ → Option RowFault
fault_in s piece = earlier_fault s.stop (fault_of_scan (scanned s piece) (unfinished (s.line ++ piece)))

-- the rows that a reader hands over at a piece
unfoldable pub rows_in : Reading → List ℕ → List (List ℤ)
rows_in s piece = (unless_stopped s.stop (read_to_end (scanned s piece))).rows

-- a reader after a piece without a fault
unfoldable pub read_on : Reading → List ℕ → Reading
read_on s piece = record s { at = (scanned s piece).at; line = unfinished (s.line ++ piece) }

-- rows before what is told after them
abbrev pub led_by_rows : List (List ℤ) → RowsRead → RowsRead
led_by_rows rows t = record { rows = rows ++ t.rows; fault = t.fault }

-- the answer of a call that found this fault or none
abbrev pub call_answer : Option RowFault → Result Unit RowFault
call_answer None = Ok tt
call_answer (Some fault) = Err fault

-- P, unless memory was refused
abbrev pub Unrefused : Result Unit RowFault → Type 0 → Type 0
Unrefused (Ok u) P = P
Unrefused (Err NoMemory) P = Unit {0}
Unrefused (Err (BadHeader line)) P = P
Unrefused (Err (BadRow line)) P = P
Unrefused (Err (LongLine line)) P = P

-- the rows that were handed over are a prefix of these rows
pub record Front (old new rows : List (List ℤ)) : Type 0 where
  pub handed : List (List ℤ)
  pub left : List (List ℤ)
  pub grown : new ≡ old ++ handed
  pub front : rows ≡ handed ++ left
