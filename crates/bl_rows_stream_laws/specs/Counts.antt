-- What is written of how many statements the ticks of a run execute.
use Rattle.std.specs.Prelude.{ℕ, ◌+◌, ◌-◌, ◌^◌, min, ℤ, List, [], ◌∷◌, ◌++◌, codes}
use Rattle.bl_ctext_semantics_laws_places.specs.Behaviour.{Behaviour}
use Rattle.bl_bound_laws.specs.Counts.{counts_after}
use Rattle.bl_rows.specs.Text.{last_text}
use Rattle.bl_rows_stream.specs.Reports.{count_text}
use Rattle.bl_rows_stream.specs.Streams.{Course}

-- a count of statements, at most the greatest number that 128 bits hold
abbrev pub told_count : ℕ → ℕ
told_count n = min n (2 ^ 128 - 1)

-- the lines of the counts of ticks, of which the first has this number
abbrev pub count_lines : ℕ → List ℕ → List ℕ
count_lines n [] = []
count_lines n (count ∷ counts) = count_text n (told_count count) ++ count_lines (n + 1) counts

-- the header, a line for each tick that has begun, and how the run stands after them
abbrev pub counts_text : Behaviour → List (List ℤ) → List ℕ
counts_text behaviour rows =
    codes "tick,statements\n" ++ (count_lines 1 (counts_after behaviour.tick behaviour.start rows) ++ last_text (behaviour.trace rows).last)

-- the course that runs a C file with this behaviour, and shows how many statements each tick executes
abbrev pub counts_by : Behaviour → Course
counts_by behaviour = record {
  ins = behaviour.inputs;
  last = λ rows. (behaviour.trace rows).last;
  text = counts_text behaviour;
}
