-- The trace over rows, in two parts.
use Rattle.std.proofs.Common.{◌≡◌, ℤ, Bool, true, false, List, [], ◌∷◌, ◌++◌, refl, ap, sym, ◌∙◌}
use Rattle.bl_tree.specs.declared.row.Last.{Last}
use Rattle.bl_tree.specs.declared.row.Last.TheVariants.{Open, Ended, Trap}
use Rattle.bl_tree.specs.declared.row.Trace.{Trace}
use Rattle.bl_ctext_semantics.specs.Parts.{Parts}
use Rattle.bl_ctext_semantics.specs.Trace.{Reply, row, ended, trapped, c_trace_from, cells_if, tick_c, trace_after, trace_then, traced}
use Rattle.bl_crun.specs.Running.{Running, after_tick, answer_of, outputs_after, reply_at, tick_if, unless_trapped}
use Rattle.bl_crun.specs.declared.tick.TickAnswer.{TickAnswer}
use Rattle.bl_crun.specs.declared.tick.TickAnswer.TheVariants as tick
use Rattle.bl_rows_stream.specs.Reports.{after_rows, trace_from}

-- the trace that begins with a tick that was answered so
abbrev pub traced_by : TickAnswer → List ℤ → Trace → Trace
traced_by tick.Row outputs rest = record { rows = outputs ∷ rest.rows; last = rest.last }
traced_by tick.Ended outputs rest = record { rows = outputs ∷ []; last = Ended }
traced_by tick.Trap outputs rest = record { rows = []; last = Trap }

-- a trace of no rows
abbrev pub none_yet : Trace
none_yet = record { rows = []; last = Open }

answered : (reply : Reply) (outputs before : List ℤ) (rest : Trace) →
    traced reply outputs rest ≡ traced_by (answer_of reply) (unless_trapped (answer_of reply) outputs before) rest
answered row outputs before rest = refl
answered ended outputs before rest = refl
answered trapped outputs before rest = refl

first-after : (file : Parts) (ready : Bool) (cells ins before : List ℤ) (rows : List (List ℤ)) →
    let t = tick_if ready file cells ins in
    trace_after file (cells_if ready cells) (ins ∷ rows)
    ≡ traced_by (answer_of t.reply) (unless_trapped (answer_of t.reply) t.outputs before) (trace_after file (cells_if ready t.cells) rows)
first-after file false cells ins before rows = refl
first-after file true cells ins before rows = answered (tick_c file cells ins).reply (tick_c file cells ins).outputs before
    (c_trace_from file rows (tick_c file cells ins).cells)

-- the first tick of a trace
pub trace-first : (r : Running) (ins before : List ℤ) (rows : List (List ℤ)) →
    trace_from r (ins ∷ rows) ≡ traced_by (answer_of (reply_at r ins)) (outputs_after r ins before) (trace_from (after_tick r ins) rows)
trace-first r ins before rows = first-after r.parts r.ready r.cells ins before rows

none-after : (file : Parts) (ready : Bool) (cells : List ℤ) → trace_after file (cells_if ready cells) [] ≡ none_yet
none-after file false cells = refl
none-after file true cells = refl

pub trace-none : (r : Running) → trace_from r [] ≡ none_yet
trace-none r = none-after r.parts r.ready r.cells

-- ---- two parts

then-first : (answer : TickAnswer) (outputs : List ℤ) (first whole later : Trace) → (traced_by answer outputs first).last ≡ Open →
    (first.last ≡ Open → whole ≡ trace_then first later) →
    traced_by answer outputs whole ≡ trace_then (traced_by answer outputs first) later
then-first tick.Row outputs first whole later running on = ap (traced_by tick.Row outputs) (on running)
then-first tick.Ended outputs first whole later running on = cc
then-first tick.Trap outputs first whole later running on = cc

-- rows that leave the run open, and those after them
pub trace-on : (r : Running) (first rest : List (List ℤ)) → (trace_from r first).last ≡ Open →
    trace_from r (first ++ rest) ≡ trace_then (trace_from r first) (trace_from (after_rows r first) rest)
trace-on r [] rest running = ap (λ t. trace_then t (trace_from r rest)) (sym (trace-none r))
trace-on r (ins ∷ first) rest running =
    let answer : TickAnswer = answer_of (reply_at r ins) in
    let outputs : List ℤ = outputs_after r ins [] in
    let is = trace-first r ins [] first in
    trace-first r ins [] (first ++ rest)
    ∙ then-first answer outputs (trace_from (after_tick r ins) first) (trace_from (after_tick r ins) (first ++ rest))
    (trace_from (after_rows (after_tick r ins) first) rest) (ap (λ (t : Trace). t.last) (sym is) ∙ running) (trace-on (after_tick r ins) first rest)
    ∙ ap (λ t. trace_then t (trace_from (after_rows (after_tick r ins) first) rest)) (sym is)

closed-first : (answer : TickAnswer) (outputs : List ℤ) (first whole : Trace) → ((traced_by answer outputs first).last ≡ Open → ⊥) →
    ((first.last ≡ Open → ⊥) → whole ≡ first) →
    traced_by answer outputs whole ≡ traced_by answer outputs first
closed-first tick.Row outputs first whole closed same = ap (traced_by tick.Row outputs) (same closed)
closed-first tick.Ended outputs first whole closed same = refl
closed-first tick.Trap outputs first whole closed same = refl

-- rows that end the run or trap, and those after them
pub trace-closed : (r : Running) (first rest : List (List ℤ)) → ((trace_from r first).last ≡ Open → ⊥) →
    trace_from r (first ++ rest) ≡ trace_from r first
trace-closed r [] rest closed = absurd (closed (ap (λ (t : Trace). t.last) (trace-none r)))
trace-closed r (ins ∷ first) rest closed =
    let answer : TickAnswer = answer_of (reply_at r ins) in
    let outputs : List ℤ = outputs_after r ins [] in
    let is = trace-first r ins [] first in
    trace-first r ins [] (first ++ rest)
    ∙ closed-first answer outputs (trace_from (after_tick r ins) first) (trace_from (after_tick r ins) (first ++ rest))
    (λ e. closed (ap (λ (t : Trace). t.last) is ∙ e)) (trace-closed (after_tick r ins) first rest)
    ∙ sym is

-- ---- the runner after rows

pub after-parts : (r : Running) (rows : List (List ℤ)) → (after_rows r rows).parts ≡ r.parts
after-parts r [] = refl
after-parts r (ins ∷ rows) = after-parts (after_tick r ins) rows

pub after-more : (r : Running) (first rest : List (List ℤ)) → after_rows r (first ++ rest) ≡ after_rows (after_rows r first) rest
after-more r [] rest = refl
after-more r (ins ∷ first) rest = after-more (after_tick r ins) first rest

-- whether a run is open is known
pub data Standing (l : Last) : Type 0 where
  goes : l ≡ Open → Standing l
  closed : (l ≡ Open → ⊥) → Standing l

pub standing : (l : Last) → Standing l
standing Open = goes refl
standing Ended = closed (λ e. cc)
standing Trap = closed (λ e. cc)
