-- What one line does to a reader.
use Rattle.std.specs.Prelude.{◌≡◌, ℕ, ◌<◌, ◌≤◌, List, [], ◌∷◌, ◌++◌, drop, get_or, length, take, ℤ, false, Option, Some, None}
use Rattle.bl_rows.specs.declared.fault.RowFault.{RowFault}
use Rattle.bl_rows.specs.declared.verdict.Verdict.{Verdict}
use Rattle.bl_rows.specs.declared.verdict.Verdict.TheVariants.{Passed, Header, Numbers, Bad}
use Rattle.bl_rows.specs.declared.verdict.RowPlace.{RowPlace}
use Rattle.bl_rows.specs.Lines.{has_feed}
use Rattle.bl_rows.specs.Reading.{Reading, Scan, place_after, verdict}

-- the fault of a bad line
abbrev pub fault_of : Verdict → Option RowFault
fault_of Passed = None
fault_of Header = None
fault_of (Numbers row) = None
fault_of (Bad fault) = Some fault

-- the rows that a line adds
abbrev pub rows_by : Verdict → List (List ℤ)
rows_by Passed = []
rows_by Header = []
rows_by (Numbers row) = row ∷ []
rows_by (Bad fault) = []

-- what is left to be told, for a reader that stands here and may have stopped
abbrev pub left_after_stop : Option RowFault → RowPlace → Scan → Scan
left_after_stop None at s = s
left_after_stop (Some fault) at s = record { rows = []; at = at; fault = Some fault }

-- a scan with more rows in front
abbrev pub with_rows : List (List ℤ) → Scan → Scan
with_rows rows s = record s { rows = rows ++ s.rows }

-- the first line of bytes is whole, begins with them, and is a row
pub record IsNextRow (s : Reading) (bytes : List ℕ) (row : List ℤ) (end : ℕ) : Type 0 where
  pub unbegun : s.line ≡ []
  pub lines : s.at.lines < 1000000
  pub inside : end < length bytes
  pub feed : get_or bytes end 0 ≡ 10
  pub whole : has_feed (take end bytes) ≡ false
  pub verdict_is : verdict s.columns s.at (take end bytes) ≡ Numbers row

-- a reader took the first line of bytes with its line feed, and appended its row where it is one
pub record TakesLine (s : Reading) (bytes : List ℕ) (was : List (List ℤ)) (taken : ℕ) (now : List (List ℤ)) (s2 : Reading) : Type 0 where
  pub some : 0 < taken
  pub within : taken ≤ length bytes
  pub front : List ℕ
  pub whole : has_feed front ≡ false
  pub splits : bytes ≡ front ++ (10 ∷ drop taken bytes)
  pub stop : s2.stop ≡ fault_of (verdict s.columns s.at (s.line ++ front))
  pub at : s2.at ≡ place_after s.at (verdict s.columns s.at (s.line ++ front))
  pub rows : now ≡ was ++ rows_by (verdict s.columns s.at (s.line ++ front))
  pub line : s2.stop ≡ None → s2.line ≡ []
  pub columns : s2.columns ≡ s.columns
  pub ended : s2.ended ≡ s.ended
