-- What a runner shows, and what its ticks do to it.
use Rattle.std.specs.Prelude.{◌≡◌, ℕ, ◌-◌, ◌^◌, min, ℤ, Bool, true, false, List, [], slice_set, Option}
use Rattle.bl_tree.specs.declared.row.Column.{Column}
use Rattle.bl_ctext_semantics.specs.Parts.{Parts}
use Rattle.bl_ctext_semantics.specs.Trace.{Reply, row, ended, trapped, TickOfFile as CTick, cells_if, start_cells, start_succeeds, tick_c}
use Rattle.bl_tree.specs.Ports.{row_fits}
use Rattle.bl_crun.specs.declared.tick.TickAnswer.{TickAnswer}
use Rattle.bl_crun.specs.declared.tick.TickAnswer.TheVariants.{Row, Ended, Trap}

-- what a runner shows
pub record Running : Type 0 where
  -- the file that runs
  pub parts : Parts
  -- the numbers of the cells, also where the start or a tick has trapped
  pub cells : List ℤ
  -- whether the start hasn't trapped
  pub ready : Bool
  -- whether no tick has ended the run or trapped
  pub live : Bool

-- a runner of a file before its first tick
abbrev pub loaded : Parts → Running
loaded parts = record { parts = parts; cells = start_cells parts; ready = start_succeeds parts; live = true }

-- the numbers from which its ticks go on: none where its start has trapped
abbrev pub state_in : Running → Option (List ℤ)
state_in r = cells_if r.ready r.cells

-- ---- ticks

-- a tick of a file; where its start has trapped the first traps, and does nothing else
abbrev pub tick_if : Bool → Parts → List ℤ → List ℤ → CTick
tick_if false file cells ins = record { reply = trapped; outputs = []; cells = cells; count = 0 }
tick_if true file cells ins = tick_c file cells ins

-- a runner's tick with a row of inputs
abbrev pub tick_at : Running → List ℤ → CTick
tick_at r ins = tick_if r.ready r.parts r.cells ins

-- what is answered
abbrev pub answer_of : Reply → TickAnswer
answer_of row = Row
answer_of ended = Ended
answer_of trapped = Trap

-- whether the run can go on
abbrev pub is_row : TickAnswer → Bool
is_row Row = true
is_row Ended = false
is_row Trap = false

-- the outputs stay where the tick traps
abbrev pub unless_trapped : TickAnswer → List ℤ → List ℤ → List ℤ
unless_trapped Row outputs before = outputs
unless_trapped Ended outputs before = outputs
unless_trapped Trap outputs before = before

-- a row of outputs that a tick has filled has a number for each output, in the range of its type
abbrev pub OutputsFit : List Column → TickAnswer → List ℤ → Type 0
OutputsFit outs Row numbers = row_fits outs numbers ≡ true
OutputsFit outs Ended numbers = row_fits outs numbers ≡ true
OutputsFit outs Trap numbers = Unit {0}

-- the reply of a tick over a row of inputs; also the runner after it, its row of outputs, and its count of statements
abbrev pub reply_at : Running → List ℤ → Reply
reply_at r ins = (tick_at r ins).reply

-- the runner after a tick over a row of inputs
abbrev pub after_tick : Running → List ℤ → Running
after_tick r ins = record { parts = r.parts; cells = (tick_at r ins).cells; ready = r.ready; live = is_row (answer_of (reply_at r ins)) }

-- the outputs after a tick over a row of inputs, or those before it where the tick traps
abbrev pub outputs_after : Running → List ℤ → List ℤ → List ℤ
outputs_after r ins before = unless_trapped (answer_of (reply_at r ins)) (tick_at r ins).outputs before

-- the count of statements of a tick, at most the greatest number that 128 bits hold
abbrev pub count_after : Running → List ℤ → ℕ
count_after r ins = min (tick_at r ins).count (2 ^ 128 - 1)

-- ---- cells

-- a runner in which a cell has another number
abbrev pub with_cell : Running → ℕ → ℤ → Running
with_cell r k n = record { parts = r.parts; cells = slice_set r.cells k n; ready = r.ready; live = r.live }
