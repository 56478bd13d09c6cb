-- The lines that tell the steps of ticks.
use Rattle.std.specs.Prelude.{ℕ, ◌+◌, List, [], ◌∷◌, ◌++◌, map, codes, decimal}
use Rattle.bl_tree.specs.declared.place.Place.{Place}
use Rattle.bl_tree.specs.Reduce.{joined}

-- the start of a place behind a space, 32
abbrev pub start_text : Place → List ℕ
start_text place = 32 ∷ decimal place.start

-- the line of a tick: its number, a colon, 58, the places of its steps, and a line feed, 10
unfoldable pub tick_line : ℕ → List Place → List ℕ
tick_line tick places = codes "tick " ++ (decimal tick ++ (58 ∷ (joined (map start_text places) ++ (10 ∷ []))))

-- the lines of ticks, of which the first has this number
abbrev pub tick_lines_from : ℕ → List (List Place) → List ℕ
tick_lines_from tick [] = []
tick_lines_from tick (places ∷ rest) = tick_line tick places ++ tick_lines_from (tick + 1) rest
