-- How many statements the ticks of a run execute.
use Rattle.std.specs.Prelude.{ℕ, ℤ, List, [], ◌∷◌, Option, Some, None}
use Rattle.bl_ctext_semantics.specs.Parts.{Parts}
use Rattle.bl_ctext_semantics.specs.Trace.{Reply, TickOfFile, ended, row, start_c, tick_c, trapped}

-- the meaning of one tick, by the numbers of the cells before it and a row of inputs
abbrev pub Ticking : Type 0
Ticking = List ℤ → List ℤ → TickOfFile

-- what comes after a tick that the run goes on from
abbrev pub counts_if : Reply → List ℕ → List ℕ
counts_if row rest = rest
counts_if ended rest = []
counts_if trapped rest = []

-- the counts of the ticks over rows from these numbers of the cells. A tick that ends the run or traps is the last, and is counted
abbrev pub counts_from : Ticking → List (List ℤ) → List ℤ → List ℕ
counts_from tick [] cells = []
counts_from tick (ins ∷ rest) cells =
    let t : TickOfFile = tick cells ins in
    t.count ∷ counts_if t.reply (counts_from tick rest t.cells)

-- the counts of a run whose start has trapped: the first tick traps, and executes nothing
abbrev pub counts_at_trap : List (List ℤ) → List ℕ
counts_at_trap [] = []
counts_at_trap (ins ∷ rest) = 0 ∷ []

-- the counts of the ticks of rows from what the start leaves
abbrev pub counts_after : Ticking → Option (List ℤ) → List (List ℤ) → List ℕ
counts_after tick None rows = counts_at_trap rows
counts_after tick (Some cells) rows = counts_from tick rows cells

-- how many statements each tick of a file executes, over rows of inputs
abbrev pub counts_of : Parts → List (List ℤ) → List ℕ
counts_of file rows = counts_after (tick_c file) (start_c file) rows
