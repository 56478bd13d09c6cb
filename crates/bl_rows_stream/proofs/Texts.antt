-- What is written of a run, in two parts, and fronts of it.
use Rattle.std.proofs.Common.{◌≡◌, ℕ, suc, ◌+◌, ℤ, List, [], ◌∷◌, ◌++◌, length, take, Option, Some, None, refl, ap, sym, ◌∙◌, arith, append_assoc, append-nil}
use Rattle.std.proofs.Common.{length-append}
use Rattle.std.proofs.Math.Seq.{take-append_seam, take-append-add}
use Rattle.std.proofs.lemmas.List.{take-append-le}
use Rattle.bl_tree.specs.declared.row.Column.{Column}
use Rattle.bl_tree.specs.declared.row.Last.TheVariants.{Open}
use Rattle.bl_tree.specs.declared.row.Trace.{Trace as TraceRows}
use Rattle.bl_ctext_semantics.specs.Cells.{outputs_of}
use Rattle.bl_crun.specs.Running.{Running, after_tick, answer_of, count_after, reply_at, tick_at, unless_trapped}
use Rattle.bl_crun.specs.declared.tick.TickAnswer.{TickAnswer}
use Rattle.bl_crun.specs.declared.tick.TickAnswer.TheVariants as tick
use Rattle.bl_io.specs.Held.{Appends}
use Rattle.bl_rows.specs.Text.{line_text, text_of}
use Rattle.bl_rows_stream.specs.Reports.{after_rows, end_text, if_row, report_from, report_header, report_of, tick_text, trace_from, unless_trap}
use Rattle.bl_rows_stream.specs.inner.Reports.{text_from}
use Rattle.bl_rows_stream.specs.Streams.{AppendsFront}
use Rattle.bl_rows_stream.specs.declared.ticks.Report.{Report}
use Rattle.bl_rows_stream.specs.declared.ticks.Report.TheVariants.{Trace}
use Rattle.bl_rows_stream.proofs.Traces.{Standing, goes, closed, standing, trace-first, trace-none, traced_by}

-- ---- two parts

-- what is written of the first tick
abbrev pub first_text : Report → ℕ → Running → List ℤ → List ℕ
first_text report n r ins =
    tick_text report n (outputs_of r.parts) (answer_of (reply_at r ins)) (tick_at r ins).outputs (count_after r ins)

on-first : (answer : TickAnswer) (outputs : List ℤ) (t : TraceRows) (line whole first later : List ℕ) → (traced_by answer outputs t).last ≡ Open →
    (t.last ≡ Open → whole ≡ first ++ later) → line ++ if_row answer whole ≡ (line ++ if_row answer first) ++ later
on-first tick.Row outputs t line whole first later running on = ap (λ l. line ++ l) (on running) ∙ sym (append_assoc line first later)
on-first tick.Ended outputs t line whole first later running on = cc
on-first tick.Trap outputs t line whole first later running on = cc

-- rows that leave the run open, and those after them
pub report-on : (report : Report) (n : ℕ) (r : Running) (first rest : List (List ℤ)) → (trace_from r first).last ≡ Open →
    report_from report n r (first ++ rest) ≡ report_from report n r first ++ report_from report (n + length first) (after_rows r first) rest
report-on report n r [] rest running = let e : n ≡ n + 0 = omega arith in ap (λ k. report_from report k r rest) e
report-on report n r (ins ∷ first) rest running =
    let answer : TickAnswer = answer_of (reply_at r ins) in
    let is = trace-first r ins [] first in
    let next : Running = after_tick r ins in
    let e : n + 1 + length first ≡ n + suc (length first) = omega arith in
    on-first answer _ (trace_from next first) (first_text report n r ins) (report_from report (n + 1) next (first ++ rest))
    (report_from report (n + 1) next first) (report_from report (n + suc (length first)) (after_rows next first) rest)
    (ap (λ (t : TraceRows). t.last) (sym is) ∙ running)
    (λ still. report-on report (n + 1) next first rest still
    ∙ ap (λ k. report_from report (n + 1) next first ++ report_from report k (after_rows next first) rest) e)

closed-first : (answer : TickAnswer) (outputs : List ℤ) (t : TraceRows) (line whole first : List ℕ) → ((traced_by answer outputs t).last ≡ Open → ⊥) →
    ((t.last ≡ Open → ⊥) → whole ≡ first) → line ++ if_row answer whole ≡ line ++ if_row answer first
closed-first tick.Row outputs t line whole first over same = ap (λ l. line ++ l) (same over)
closed-first tick.Ended outputs t line whole first over same = refl
closed-first tick.Trap outputs t line whole first over same = refl

-- rows that end the run or trap, and those after them
pub report-closed : (report : Report) (n : ℕ) (r : Running) (first rest : List (List ℤ)) → ((trace_from r first).last ≡ Open → ⊥) →
    report_from report n r (first ++ rest) ≡ report_from report n r first
report-closed report n r [] rest over = absurd (over (ap (λ (t : TraceRows). t.last) (trace-none r)))
report-closed report n r (ins ∷ first) rest over =
    let answer : TickAnswer = answer_of (reply_at r ins) in
    let is = trace-first r ins [] first in
    let next : Running = after_tick r ins in
    closed-first answer _ (trace_from next first) (first_text report n r ins) (report_from report (n + 1) next (first ++ rest))
    (report_from report (n + 1) next first) (λ e. over (ap (λ (t : TraceRows). t.last) is ∙ e)) (report-closed report (n + 1) next first rest)

-- the whole of what is written
pub report-of-on : (report : Report) (r : Running) (first rest : List (List ℤ)) → (trace_from r first).last ≡ Open →
    report_of report r (first ++ rest) ≡ report_of report r first ++ report_from report (length first + 1) (after_rows r first) rest
report-of-on report r first rest running =
    let e : 1 + length first ≡ length first + 1 = omega arith in
    let heading : List ℕ = report_header report (outputs_of r.parts) in
    ap (λ l. heading ++ l) (report-on report 1 r first rest running)
    ∙ sym (append_assoc heading (report_from report 1 r first) (report_from report (1 + length first) (after_rows r first) rest))
    ∙ ap (λ k. report_of report r first ++ report_from report k (after_rows r first) rest) e

-- ---- the text of a trace

trace-row : (answer : TickAnswer) (n : ℕ) (outs : List Column) (outputs : List ℤ) (t : TraceRows) (rest : List ℕ) → rest ≡ text_from (n + 1) outs t →
    (unless_trap answer (line_text n outs outputs) ++ end_text answer) ++ if_row answer rest
    ≡ text_from n outs (traced_by answer (unless_trapped answer outputs []) t)
trace-row tick.Row n outs outputs t rest is =
    ap (λ l. l ++ rest) (append-nil (line_text n outs outputs)) ∙ ap (λ l. line_text n outs outputs ++ l) is
    ∙ sym (append_assoc (line_text n outs outputs) _ _)
trace-row tick.Ended n outs outputs t rest is =
    append-nil (line_text n outs outputs ++ end_text tick.Ended) ∙ ap (λ l. l ++ end_text tick.Ended) (sym (append-nil (line_text n outs outputs)))
trace-row tick.Trap n outs outputs t rest is = append-nil (end_text tick.Trap)

trace-from : (n : ℕ) (r : Running) (rows : List (List ℤ)) → report_from Trace n r rows ≡ text_from n (outputs_of r.parts) (trace_from r rows)
trace-from n r [] = sym (ap (text_from n (outputs_of r.parts)) (trace-none r))
trace-from n r (ins ∷ rows) =
    trace-row (answer_of (reply_at r ins)) n (outputs_of r.parts) (tick_at r ins).outputs (trace_from (after_tick r ins) rows)
    (report_from Trace (n + 1) (after_tick r ins) rows) (trace-from (n + 1) (after_tick r ins) rows)
    ∙ sym (ap (text_from n (outputs_of r.parts)) (trace-first r ins [] rows))

pub trace-text : (r : Running) (rows : List (List ℤ)) → report_of Trace r rows ≡ text_of (trace_from r rows) (outputs_of r.parts)
unfolding text_of
trace-text r rows = ap (λ l. report_header Trace (outputs_of r.parts) ++ l) (trace-from 1 r rows)

-- ---- fronts

-- a text begins with another
pub record Begins (front text : List ℕ) : Type 0 where
  pub rest : List ℕ
  pub is : text ≡ front ++ rest

begins-all : (a : List ℕ) → Begins a a
begins-all a = record { rest = []; is = sym (append-nil a) }

pub begins-by : (a b c : List ℕ) → Begins a b → b ≡ c → Begins a c
begins-by a b c h e = record { rest = h.rest; is = sym e ∙ h.is }

pub begins-behind : (a b c : List ℕ) → Begins b c → Begins (a ++ b) (a ++ c)
begins-behind a b c h = record { rest = h.rest; is = ap (λ l. a ++ l) h.is ∙ sym (append_assoc a b h.rest) }

begins-choice : (report : Report) (n : ℕ) (r : Running) (first rest : List (List ℤ)) → Standing (trace_from r first).last →
    Begins (report_from report n r first) (report_from report n r (first ++ rest))
begins-choice report n r first rest (goes is) = record {
  rest = report_from report (n + length first) (after_rows r first) rest;
  is = report-on report n r first rest is;
}
begins-choice report n r first rest (closed not) =
    begins-by _ _ _ (begins-all (report_from report n r first)) (sym (report-closed report n r first rest not))

-- what is written of some rows begins what is written of more
pub begins-report : (report : Report) (n : ℕ) (r : Running) (first rest : List (List ℤ)) →
    Begins (report_from report n r first) (report_from report n r (first ++ rest))
begins-report report n r first rest = begins-choice report n r first rest (standing (trace_from r first).last)

-- what grew by a front
pub front-all : (before after : Option (List ℕ)) (a text : List ℕ) → Appends before a after → Begins a text → AppendsFront before text after
front-all None after a text grew begins = tt
front-all (Some bytes) after a text grew begins =
    let long = length-append a begins.rest in
    let same = ap length begins.is in (
      length a,
      omega arith,
      grew ∙ ap (λ l. Some (bytes ++ l)) (sym (take-append_seam a begins.rest) ∙ ap (take (length a)) (sym begins.is)),
    )

pub front-more : (before mid after : Option (List ℕ)) (a b text : List ℕ) → Appends before a mid → AppendsFront mid b after →
    Begins (a ++ b) text → AppendsFront before text after
front-more None mid after a b text grew more begins = tt
front-more (Some bytes) mid after a b text grew more begins = fronted after (rw grew at more)
  where
    fronted : (after : Option (List ℕ)) → AppendsFront (Some (bytes ++ a)) b after → AppendsFront (Some bytes) text after
    fronted after m =
        let whole : text ≡ a ++ (b ++ begins.rest) = begins.is ∙ append_assoc a b begins.rest in
        let long = length-append a (b ++ begins.rest) in
        let long2 = length-append b begins.rest in
        let same = ap length whole in
        let least = m.1 in
        let taken : take (length a + m.0) text ≡ a ++ take m.0 b =
        ap (take (length a + m.0)) whole ∙ take-append-add a (b ++ begins.rest) m.0 ∙ ap (λ l. a ++ l) (take-append-le m.0 b begins.rest least) in (
          length a + m.0,
          omega arith,
          m.2 ∙ ap Some (append_assoc bytes a (take m.0 b) ∙ ap (λ l. bytes ++ l) (sym taken)),
        )
