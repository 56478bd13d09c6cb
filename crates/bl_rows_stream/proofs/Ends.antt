-- How a run ends over bytes of which it has run some rows.
use Rattle.std.proofs.Common.{◌≡◌, ℕ, ◌+◌, ◌⊎◌, ℤ, List, [], ◌++◌, Option, ap, sym, subst, ◌∙◌, append-nil}
use Rattle.bl_tree.specs.declared.row.Last.TheVariants.{Open}
use Rattle.bl_tree.specs.declared.row.Trace.{Trace}
use Rattle.bl_ctext_semantics.specs.Cells.{inputs_of}
use Rattle.bl_ctext_semantics.specs.Parts.{Parts}
use Rattle.bl_crun.specs.Running.{Running}
use Rattle.bl_io.specs.Held.{Appends}
use Rattle.bl_io.proofs.Held.{Appends-trans}
use Rattle.bl_rows.specs.Reading.{empty_reading, rows_in, rows_of}
use Rattle.bl_rows_stream.specs.Reports.{HasRun, after_rows, report_from, report_of, trace_from}
use Rattle.bl_rows_stream.specs.inner.Going.{RunEnds, Start, runner_at, stopped, whole, RunStands}
use Rattle.bl_rows_stream.specs.Streams.{AppendsFront, course_from, finish_of, last_over, report_over}
use Rattle.bl_rows_stream.specs.declared.finish.Finish.{Finish}
use Rattle.bl_rows_stream.specs.declared.finish.Finish.TheVariants as finish
use Rattle.bl_rows_stream.specs.declared.pieces.Session.{Session}
use Rattle.bl_rows_stream.specs.declared.ticks.Report.{Report}
use Rattle.bl_rows_stream.proofs.Texts.{begins-behind, begins-by, begins-report, front-all, front-more, report-closed, report-of-on}
use Rattle.bl_rows_stream.proofs.Traces.{after-more, trace-closed, trace-on}

module _ (report : Report) (start : Start) (file : Parts) (read : List ℕ) (before : Option (List ℕ)) (s : Session) (r : Running)
    (now : Option (List ℕ)) (stands : RunStands report start file read before s r now) where
  abbrev First : Running
  First = runner_at start file

  -- the rows that have run
  abbrev Ran : List (List ℤ)
  Ran = rows_in (empty_reading (inputs_of file)) read

  -- what was written of them, and what is written of further rows
  abbrev Written : List ℕ
  Written = report_of report First Ran

  abbrev Further : List (List ℤ) → List ℕ
  Further rows = report_from report (s.ticks.done + 1) r rows

  after : after_rows First Ran ≡ r
  after = sym stands.runs

  pub last-more : (rows : List (List ℤ)) → (trace_from First (Ran ++ rows)).last ≡ (trace_from r rows).last
  last-more rows = ap (λ (t : Trace). t.last) (trace-on First Ran rows stands.running) ∙ ap (λ (q : Running). (trace_from q rows).last) after

  pub text-more : (rows : List (List ℤ)) → report_of report First (Ran ++ rows) ≡ Written ++ Further rows
  text-more rows =
      report-of-on report First Ran rows stands.running
      ∙ ap (λ n. Written ++ report_from report (n + 1) (after_rows First Ran) rows) (sym stands.done)
      ∙ ap (λ q. Written ++ report_from report (s.ticks.done + 1) q rows) after

  -- a runner that has run further rows has run all of them
  run-more : (rows : List (List ℤ)) (now2 : Running) → HasRun r rows now2 → HasRun First (Ran ++ rows) now2
  run-more rows now2 has = record {
    going = λ still.
        has.going (sym (last-more rows) ∙ still) ∙ ap (λ q. after_rows q rows) stands.runs ∙ sym (after-more First Ran rows);
    closed = λ over. has.closed (λ still. over (last-more rows ∙ still));
    parts = has.parts ∙ stands.parts;
  }

  -- the whole of these bytes tells so much
  module _ (bytes : List ℕ) (rows later : List (List ℤ)) (tells : (rows_of bytes (inputs_of file)).rows ≡ Ran ++ (rows ++ later)) where
    text-over : report_over report First bytes ≡ Written ++ Further (rows ++ later)
    text-over = ap (λ l. report_of report First l) tells ∙ text-more (rows ++ later)

    -- a front was written of what is written of the rows
    pub ends-front : (after : Option (List ℕ)) (now2 : Running) (ended : Finish) → (ended ≡ finish.WriteFault) ⊎ (ended ≡ finish.NoMemory) →
        AppendsFront now (Further rows) after → RunEnds report First bytes before after now2 ended
    ends-front after now2 ended why front =
        stopped why
        (front-more before now after Written (Further rows) (report_over report First bytes) stands.written front
        (begins-by _ _ _ (begins-behind Written _ _ (begins-report report (s.ticks.done + 1) r rows later)) (sym text-over)))

    -- nothing of it was written
    pub ends-before : (now2 : Running) (ended : Finish) → (ended ≡ finish.WriteFault) ⊎ (ended ≡ finish.NoMemory) →
        RunEnds report First bytes before now now2 ended
    ends-before now2 ended why =
        stopped why
        (front-all before now Written (report_over report First bytes) stands.written (record { rest = Further (rows ++ later); is = text-over }))

    -- all of it was written, and no further row comes
    pub ends-whole : (after : Option (List ℕ)) (now2 : Running) (ended : Finish) → later ≡ [] → HasRun r rows now2 →
        ended ≡ finish_of (trace_from r rows).last (rows_of bytes (inputs_of file)).fault → Appends now (Further rows) after →
        RunEnds report First bytes before after now2 ended
    ends-whole after now2 ended none has is grew =
        let all : (rows_of bytes (inputs_of file)).rows ≡ Ran ++ rows =
        tells ∙ ap (λ l. Ran ++ (rows ++ l)) none ∙ ap (λ l. Ran ++ l) (append-nil rows) in
        whole
        (is ∙ ap (λ l. finish_of l (rows_of bytes (inputs_of file)).fault) (sym (ap (λ l. (trace_from First l).last) all ∙ last-more rows)))
        (subst (λ text. Appends before text after) (sym (ap (λ l. report_of report First l) all ∙ text-more rows))
        (Appends-trans before now after Written (Further rows) stands.written grew))
        (subst (λ l. HasRun First l now2) (sym all) (run-more rows now2 has))

    -- the same where the rows have closed the run
    pub ends-closed : (after : Option (List ℕ)) (now2 : Running) (ended : Finish) → ((trace_from r rows).last ≡ Open → ⊥) → HasRun r rows now2 →
        ended ≡ finish_of (trace_from r rows).last (rows_of bytes (inputs_of file)).fault → Appends now (Further rows) after →
        RunEnds report First bytes before after now2 ended
    ends-closed after now2 ended not has is grew =
        let last : last_over (course_from First) bytes ≡ (trace_from r rows).last =
        ap (λ l. (trace_from First l).last) tells ∙ last-more (rows ++ later) ∙ ap (λ (t : Trace). t.last) (trace-closed r rows later not) in
        whole (is ∙ ap (λ l. finish_of l (rows_of bytes (inputs_of file)).fault) (sym last))
        (subst (λ text. Appends before text after)
        (sym (text-over ∙ ap (λ l. Written ++ l) (report-closed report (s.ticks.done + 1) r rows later not)))
        (Appends-trans before now after Written (Further rows) stands.written grew))
        (record {
          going = λ still. absurd (not (sym last ∙ still));
          closed = λ over. has.closed not;
          parts = has.parts ∙ stands.parts;
        })
