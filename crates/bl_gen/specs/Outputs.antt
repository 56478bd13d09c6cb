-- The rows over which the generated program is run, and the lines that tell its outputs.
use Rattle.std.specs.Prelude.{ℕ, zero, suc, ◌-◌, ℤ, pos, ◌+ℤ◌, List, [], ◌∷◌, ◌++◌, length, codes, slice_index_or}
use Rattle.std.specs.Fmt.{signed_decimal}

-- rows of one number each, 1 to this one
abbrev pub rows_to : ℕ → List (List ℤ)
rows_to zero = []
rows_to (suc before) = rows_to before ++ (pos (suc before) ∷ []) ∷ []

-- the rows over which the program is run
unfoldable pub input_rows : List (List ℤ)
input_rows = rows_to 100

-- the output in a row of a program that has one; 0 where there is none
abbrev pub first_output : List ℤ → ℤ
first_output row = slice_index_or row 0 (pos 0)

-- the sum of the outputs of rows
abbrev pub sum_of : List (List ℤ) → ℤ
sum_of [] = pos 0
sum_of (row ∷ rows) = first_output row +ℤ sum_of rows

-- the output in the last row; 0 where there is no row
abbrev pub last_output : List (List ℤ) → ℤ
last_output rows = first_output (slice_index_or rows (length rows - 1) [])

-- a word and a number on a line, with its line feed (10)
unfoldable pub line_text : List ℕ → ℤ → List ℕ
line_text word number = word ++ (signed_decimal number ++ (10 ∷ []))

-- the four lines of a run: how many stages the program has, how many ticks there were, the sum of its outputs, and the last of them
unfoldable pub report_text : ℕ → List (List ℤ) → List ℕ
report_text stages rows = line_text (codes "stages ") (pos stages)
    ++ (line_text (codes "ticks ") (pos (length rows)) ++ (line_text (codes "sum ") (sum_of rows) ++ line_text (codes "last ") (last_output rows)))
