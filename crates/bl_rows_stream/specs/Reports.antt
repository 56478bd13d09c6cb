-- What a runner still does over rows, and what is written of it.
use Rattle.std.specs.Prelude.{◌≡◌, ℕ, ◌+◌, ℤ, false, List, [], ◌∷◌, ◌++◌, codes, decimal}
use Rattle.bl_tree.specs.declared.row.Trace.{Trace as TraceRows}
use Rattle.bl_tree.specs.declared.row.Column.{Column}
use Rattle.bl_tree.specs.declared.row.Last.TheVariants.{Open}
use Rattle.bl_ctext_semantics.specs.Cells.{outputs_of}
use Rattle.bl_ctext_semantics.specs.Trace.{trace_after}
use Rattle.bl_crun.specs.Running.{Running, after_tick, answer_of, count_after, reply_at, state_in, tick_at}
use Rattle.bl_crun.specs.declared.tick.TickAnswer.{TickAnswer}
use Rattle.bl_crun.specs.declared.tick.TickAnswer.TheVariants as tick
use Rattle.bl_rows.specs.Text.{header_text, line_text}
use Rattle.bl_rows_stream.specs.declared.ticks.Report.{Report}
use Rattle.bl_rows_stream.specs.declared.ticks.Report.TheVariants.{Trace, Counts, Nothing}

-- ---- the runner

-- the trace over rows that come next
abbrev pub trace_from : Running → List (List ℤ) → TraceRows
trace_from r rows = trace_after r.parts (state_in r) rows

-- a runner after the ticks of rows
abbrev pub after_rows : Running → List (List ℤ) → Running
after_rows r [] = r
after_rows r (ins ∷ rows) = after_rows (after_tick r ins) rows

-- a runner that has run rows: all of them if they leave the run open, and else it isn't live any more
pub record HasRun (r : Running) (rows : List (List ℤ)) (now : Running) : Type 0 where
  pub going : (trace_from r rows).last ≡ Open → now ≡ after_rows r rows
  pub closed : ((trace_from r rows).last ≡ Open → ⊥) → now.live ≡ false
  pub parts : now.parts ≡ r.parts

-- ---- texts

-- the line of a tick's count: both numbers, and a line feed
abbrev pub count_text : ℕ → ℕ → List ℕ
count_text tick count = decimal tick ++ (44 ∷ (decimal count ++ (10 ∷ [])))

-- the line that follows the last tick
abbrev pub end_text : TickAnswer → List ℕ
end_text tick.Row = []
end_text tick.Ended = codes "ended\n"
end_text tick.Trap = codes "trap\n"

-- a line that a tick which traps doesn't have
abbrev pub unless_trap : TickAnswer → List ℕ → List ℕ
unless_trap tick.Row line = line
unless_trap tick.Ended line = line
unless_trap tick.Trap line = []

-- what is written of a tick with this number, answer, outputs and count
abbrev pub tick_text : Report → ℕ → List Column → TickAnswer → List ℤ → ℕ → List ℕ
tick_text Trace n outs answer outputs count = unless_trap answer (line_text n outs outputs) ++ end_text answer
tick_text Counts n outs answer outputs count = count_text n count ++ end_text answer
tick_text Nothing n outs answer outputs count = []

-- what comes after a tick that the run goes on from
abbrev pub if_row : TickAnswer → List ℕ → List ℕ
if_row tick.Row rest = rest
if_row tick.Ended rest = []
if_row tick.Trap rest = []

-- what is written of the ticks of rows, of which the first has this number
abbrev pub report_from : Report → ℕ → Running → List (List ℤ) → List ℕ
report_from report n r [] = []
report_from report n r (ins ∷ rows) =
    tick_text report n (outputs_of r.parts) (answer_of (reply_at r ins)) (tick_at r ins).outputs (count_after r ins)
    ++ if_row (answer_of (reply_at r ins)) (report_from report (n + 1) (after_tick r ins) rows)

-- what is written before the ticks
abbrev pub report_header : Report → List Column → List ℕ
report_header Trace outs = header_text outs
report_header Counts outs = codes "tick,statements\n"
report_header Nothing outs = []

-- what is written of a run over rows: the text of its trace, how many statements each tick executed, or nothing
abbrev pub report_of : Report → Running → List (List ℤ) → List ℕ
report_of report r rows = report_header report (outputs_of r.parts) ++ report_from report 1 r rows
