-- The text of a trace.
use Rattle.std.specs.Prelude.{ℕ, ◌+◌, List, [], ◌∷◌, ◌++◌, map, codes, ℤ, pos, decimal, if◌then◌else◌}
use Rattle.std.specs.Fmt.{signed_decimal}
use Rattle.std.specs.Ordering.{int_eq}
use Rattle.std.specs.Str.Parse.{true_text, false_text}
use Rattle.bl_tree.specs.Reduce.{joined}
use Rattle.bl_tree.specs.declared.scalar.Scalar.{Scalar}
use Rattle.bl_tree.specs.declared.scalar.Scalar.TheVariants.{Bool as OfBool}
use Rattle.bl_tree.specs.declared.row.Column.{Column}
use Rattle.bl_tree.specs.declared.row.Last.{Last}
use Rattle.bl_tree.specs.declared.row.Last.TheVariants.{Open, Ended, Trap}
use Rattle.bl_tree.specs.declared.row.Trace.{Trace}

-- a name behind a comma, 44
abbrev pub name_text : Column → List ℕ
name_text c = 44 ∷ c.name

-- the first line of a trace: `tick` and the names of the outputs, and a line feed
unfoldable pub header_text : List Column → List ℕ
header_text outs = codes "tick" ++ (joined (map name_text outs) ++ (10 ∷ []))

-- a number as a trace shows it: a word for a bool, else plain decimal
abbrev pub value_text : Scalar → ℤ → List ℕ
value_text OfBool z = if int_eq z (pos 0) then false_text else true_text
value_text t z = signed_decimal z

-- the numbers of a row, each behind a comma
abbrev pub values_text : List Column → List ℤ → List ℕ
values_text [] row = []
values_text (c ∷ columns) [] = []
values_text (c ∷ columns) (z ∷ row) = 44 ∷ (value_text c.ty z ++ values_text columns row)

-- the line of a tick: its number, the outputs, and a line feed
unfoldable pub line_text : ℕ → List Column → List ℤ → List ℕ
line_text tick outs row = decimal tick ++ (values_text outs row ++ (10 ∷ []))

-- the lines of rows, of which the first has this tick's number
abbrev pub lines_from : ℕ → List Column → List (List ℤ) → List ℕ
lines_from tick outs [] = []
lines_from tick outs (row ∷ rows) = line_text tick outs row ++ lines_from (tick + 1) outs rows

-- the last line of a trace that trapped or ended
abbrev pub last_text : Last → List ℕ
last_text Open = []
last_text Ended = codes "ended\n"
last_text Trap = codes "trap\n"

-- the text of a trace: the header, a line for each tick from 1, and how it stands after them
unfoldable pub text_of : Trace → List Column → List ℕ
text_of t outs = header_text outs ++ (lines_from 1 outs t.rows ++ last_text t.last)
