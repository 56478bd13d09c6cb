-- The trace of a runner, tick by tick.
use Rattle.std.proofs.Common.{◌≡◌, ◌+◌, ℤ, Bool, true, false, ◌&&◌, List, [], ◌∷◌, ◌++◌, refl, ap, sym, ◌∙◌}
use Rattle.std.specs.List.{list_all}
use Rattle.std.proofs.lemmas.List.Folds.{list_all-append}
use Rattle.std.proofs.lemmas.List.Sums.{fold-append}
use Rattle.bl_ctext_semantics.specs.Parts.{Parts}
use Rattle.bl_ctext_semantics.specs.Trace.{Reply, row, ended, trapped, c_trace_from, cells_if, tick_c, trace_after, trace_then, traced}
use Rattle.bl_crun.specs.Running.{Running, after_tick, answer_of, is_row, outputs_after, reply_at, tick_if, unless_trapped}
use Rattle.bl_crun.specs.declared.tick.TickAnswer.{TickAnswer}
use Rattle.bl_crun.specs.declared.tick.TickAnswer.TheVariants as tick
use Rattle.bl_plant_drive.specs.Drives.{runner_after, trace_over}
use Rattle.bl_tree.specs.Ports.{RowsFit, row_fits}
use Rattle.bl_tree.specs.declared.row.Column.{Column}
use Rattle.bl_tree.specs.declared.row.Last.TheVariants.{Open, Ended, Trap}
use Rattle.bl_tree.specs.declared.row.Trace.{Trace}

-- the trace that begins with a tick that was answered so
abbrev pub traced_by : TickAnswer → List ℤ → Trace → Trace
traced_by tick.Row outputs rest = record { rows = outputs ∷ rest.rows; last = rest.last }
traced_by tick.Ended outputs rest = record { rows = outputs ∷ []; last = Ended }
traced_by tick.Trap outputs rest = record { rows = []; last = Trap }

-- a trace of no rows
abbrev pub none_yet : Trace
none_yet = record { rows = []; last = Open }

answered : (reply : Reply) (outputs before : List ℤ) (rest : Trace) →
    traced reply outputs rest ≡ traced_by (answer_of reply) (unless_trapped (answer_of reply) outputs before) rest
answered row outputs before rest = refl
answered ended outputs before rest = refl
answered trapped outputs before rest = refl

first-after : (file : Parts) (ready : Bool) (cells ins before : List ℤ) (rows : List (List ℤ)) →
    let t = tick_if ready file cells ins in
    trace_after file (cells_if ready cells) (ins ∷ rows)
    ≡ traced_by (answer_of t.reply) (unless_trapped (answer_of t.reply) t.outputs before) (trace_after file (cells_if ready t.cells) rows)
first-after file false cells ins before rows = refl
first-after file true cells ins before rows = answered (tick_c file cells ins).reply (tick_c file cells ins).outputs before
    (c_trace_from file rows (tick_c file cells ins).cells)

-- the first tick of a trace
pub trace-first : (r : Running) (ins before : List ℤ) (rows : List (List ℤ)) →
    trace_over r (ins ∷ rows) ≡ traced_by (answer_of (reply_at r ins)) (outputs_after r ins before) (trace_over (after_tick r ins) rows)
trace-first r ins before rows = first-after r.parts r.ready r.cells ins before rows

none-after : (file : Parts) (ready : Bool) (cells : List ℤ) → trace_after file (cells_if ready cells) [] ≡ none_yet
none-after file false cells = refl
none-after file true cells = refl

pub trace-none : (r : Running) → trace_over r [] ≡ none_yet
trace-none r = none-after r.parts r.ready r.cells

then-first : (answer : TickAnswer) (outputs : List ℤ) (first whole later : Trace) → (traced_by answer outputs first).last ≡ Open →
    (first.last ≡ Open → whole ≡ trace_then first later) →
    traced_by answer outputs whole ≡ trace_then (traced_by answer outputs first) later
then-first tick.Row outputs first whole later running on = ap (traced_by tick.Row outputs) (on running)
then-first tick.Ended outputs first whole later running on = cc
then-first tick.Trap outputs first whole later running on = cc

-- rows that leave the run open, and those after them
trace-on : (r : Running) (first rest : List (List ℤ)) → (trace_over r first).last ≡ Open →
    trace_over r (first ++ rest) ≡ trace_then (trace_over r first) (trace_over (runner_after r first) rest)
trace-on r [] rest running = ap (λ t. trace_then t (trace_over r rest)) (sym (trace-none r))
trace-on r (ins ∷ first) rest running =
    let answer : TickAnswer = answer_of (reply_at r ins) in
    let outputs : List ℤ = outputs_after r ins [] in
    let is = trace-first r ins [] first in
    trace-first r ins [] (first ++ rest)
    ∙ then-first answer outputs (trace_over (after_tick r ins) first) (trace_over (after_tick r ins) (first ++ rest))
    (trace_over (runner_after (after_tick r ins) first) rest) (ap (λ (t : Trace). t.last) (sym is) ∙ running) (trace-on (after_tick r ins) first rest)
    ∙ ap (λ t. trace_then t (trace_over (runner_after (after_tick r ins) first) rest)) (sym is)

-- ---- one more tick

-- a trace and what one more tick adds to it
abbrev pub trace_with : Trace → TickAnswer → List ℤ → Trace
trace_with t tick.Row outputs = record { rows = t.rows ++ outputs ∷ []; last = Open }
trace_with t tick.Ended outputs = record { rows = t.rows ++ outputs ∷ []; last = Ended }
trace_with t tick.Trap outputs = record { rows = t.rows ++ []; last = Trap }

then-with : (t : Trace) (answer : TickAnswer) (outputs : List ℤ) → trace_then t (traced_by answer outputs none_yet) ≡ trace_with t answer outputs
then-with t tick.Row outputs = refl
then-with t tick.Ended outputs = refl
then-with t tick.Trap outputs = refl

-- the trace of one more row
pub trace-more : (s r : Running) (rows : List (List ℤ)) (ins before : List ℤ) (t : Trace) → t ≡ trace_over s rows → t.last ≡ Open →
    r ≡ runner_after s rows → trace_with t (answer_of (reply_at r ins)) (outputs_after r ins before) ≡ trace_over s (rows ++ ins ∷ [])
trace-more s r rows ins before t is running now =
    sym (then-with t (answer_of (reply_at r ins)) (outputs_after r ins before))
    ∙ ap (λ z. trace_then t (traced_by (answer_of (reply_at r ins)) (outputs_after r ins before) z)) (sym (trace-none (after_tick r ins)))
    ∙ ap (trace_then t) (sym (trace-first r ins before []))
    ∙ ap (λ z. trace_then t (trace_over z (ins ∷ []))) now
    ∙ ap (λ z. trace_then z (trace_over (runner_after s rows) (ins ∷ []))) is
    ∙ sym (trace-on s rows (ins ∷ []) (ap (λ (x : Trace). x.last) (sym is) ∙ running))

-- and the runner behind it
pub runner-more : (s r : Running) (rows : List (List ℤ)) (ins : List ℤ) → r ≡ runner_after s rows →
    after_tick r ins ≡ runner_after s (rows ++ ins ∷ [])
runner-more s r rows ins now = ap (λ z. after_tick z ins) now ∙ sym (fold-append after_tick s rows (ins ∷ []))

-- it has the same file
pub runner-parts : (s : Running) (rows : List (List ℤ)) → (runner_after s rows).parts ≡ s.parts
runner-parts s [] = refl
runner-parts s (ins ∷ rows) = runner-parts (after_tick s ins) rows

-- and goes on behind a row
pub live-more : (r : Running) (ins : List ℤ) → answer_of (reply_at r ins) ≡ tick.Row → (after_tick r ins).live ≡ true
live-more r ins is = ap is_row is

-- one more row fits
pub fit-more : (columns : List Column) (rows : List (List ℤ)) (ins : List ℤ) → RowsFit columns rows → row_fits columns ins ≡ true →
    RowsFit columns (rows ++ ins ∷ [])
fit-more columns rows ins before fits =
    list_all-append (row_fits columns) rows (ins ∷ [])
    ∙ ap (λ z. z && list_all (row_fits columns) (ins ∷ [])) before
    ∙ ap (λ z. z && true) fits
