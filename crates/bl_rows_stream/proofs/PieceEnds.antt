-- How the rows of a piece, and those of the file's end, leave a run.
use Rattle.std.proofs.Common.{◌≡◌, ℕ, ◌+◌, ◌≤◌, ◌⊎◌, ℤ, true, false, List, [], ◌++◌, length, Option, Some, None, IfSome, refl, ap, sym, subst, ◌∙◌, arith}
use Rattle.std.proofs.Common.{append_assoc, append-nil, length-append}
use Rattle.bl_tree.specs.declared.row.Last.{Last}
use Rattle.bl_tree.specs.declared.row.Last.TheVariants.{Open, Ended, Trap}
use Rattle.bl_tree.specs.Ports.{RowsFit}
use Rattle.bl_ctext_semantics.specs.Cells.{inputs_of, outputs_of}
use Rattle.bl_crun.specs.Running.{Running}
use Rattle.bl_io.specs.Held.{Appends}
use Rattle.bl_io.proofs.Held.{Appends-trans}
use Rattle.bl_rows.specs.Reading.{Reading, RowsRead, empty_reading, fault_in, led_by_rows, read_on, rows_after, rows_in, rows_of}
use Rattle.bl_rows.specs.declared.fault.RowFault.{RowFault}
use Rattle.bl_rows_stream.specs.Reports.{HasRun, after_rows, report_from, report_of, trace_from}
use Rattle.bl_rows_stream.specs.inner.Going.{RunEnds, Leaves, RunStands, Start, progress_of, reach, runner_at}
use Rattle.bl_rows_stream.specs.Streams.{AppendsFront, finish_of}
use Rattle.bl_rows_stream.specs.declared.finish.Finish.{Finish}
use Rattle.bl_rows_stream.specs.declared.finish.Finish.TheVariants as finish
use Rattle.bl_rows_stream.specs.declared.finish.Progress.TheVariants as progress
use Rattle.bl_rows_stream.specs.declared.pieces.Session.{Session}
use Rattle.bl_rows_stream.specs.declared.ticks.Report.{Report}
use Rattle.bl_rows_stream.proofs.Ends.{ends-before, ends-closed, ends-front, ends-whole, last-more, text-more}
use Rattle.bl_rows_stream.proofs.Reaches.{reads-low, reads-on}
use Rattle.bl_rows_stream.proofs.Readers.{end-few, end-fits, end-told, fed-more, piece-few, piece-fits, told-more}
use Rattle.bl_rows_stream.proofs.Traces.{after-more, after-parts}
use Rattle.bl_rows.proofs.Pieces.{stopped_told}

module _ (report : Report) (start : Start) where
  -- a run is refused before anything more is written
  pub refused : (read rest : List ℕ) (before now : Option (List ℕ)) (s : Session) (r now2 : Running) →
      RunStands report start r.parts read before s r now →
      (ended : Finish) → (ended ≡ finish.WriteFault) ⊎ (ended ≡ finish.NoMemory) →
      RunEnds report (runner_at start r.parts) (read ++ rest) before now now2 ended
  refused read rest before now s r now2 stands ended why =
      ends-before report start r.parts read before s r now stands (read ++ rest) [] (rows_after s.reader rest).rows
      (ap (λ (t : RowsRead). t.rows) (stands.fed.told rest)) now2 ended why

  -- the same before the rows of a piece
  pub piece-refused : (read piece rest : List ℕ) (before now : Option (List ℕ)) (s : Session) (r now2 : Running) →
      RunStands report start r.parts read before s r now → (ended : Finish) → (ended ≡ finish.WriteFault) ⊎ (ended ≡ finish.NoMemory) →
      RunEnds report (runner_at start r.parts) ((read ++ piece) ++ rest) before now now2 ended
  piece-refused read piece rest before now s r now2 stands ended why =
      subst (λ bytes. RunEnds report (runner_at start r.parts) bytes before now now2 ended) (sym (append_assoc read piece rest))
      (refused read (piece ++ rest) before now s r now2 stands ended why)

  -- and before the last row
  pub last-refused : (read : List ℕ) (before now : Option (List ℕ)) (s : Session) (r now2 : Running) →
      RunStands report start r.parts read before s r now → (ended : Finish) → (ended ≡ finish.WriteFault) ⊎ (ended ≡ finish.NoMemory) →
      RunEnds report (runner_at start r.parts) read before now now2 ended
  last-refused read before now s r now2 stands ended why =
      subst (λ bytes. RunEnds report (runner_at start r.parts) bytes before now now2 ended) (append-nil read)
      (refused read [] before now s r now2 stands ended why)

-- what was written of rows by ticks that report so
reported-so : (report own : Report) (n : ℕ) (r : Running) (rows : List (List ℤ)) (now now2 : Option (List ℕ)) → own ≡ report →
    Appends now (report_from own n r rows) now2 → Appends now (report_from report n r rows) now2
reported-so report own n r rows now now2 same grew = subst (λ q. Appends now (report_from q n r rows) now2) same grew

front-so : (report own : Report) (n : ℕ) (r : Running) (rows : List (List ℤ)) (now now2 : Option (List ℕ)) → own ≡ report →
    AppendsFront now (report_from own n r rows) now2 → AppendsFront now (report_from report n r rows) now2
front-so report own n r rows now now2 same grew = subst (λ q. AppendsFront now (report_from q n r rows) now2) same grew

module _ (report : Report) (start : Start) (read piece : List ℕ) (before now now2 : Option (List ℕ)) (s s2 : Session) (r r2 : Running)
    (stands : RunStands report start r.parts read before s r now) (rows : List (List ℤ)) (are : rows ≡ rows_in s.reader piece)
    (cuts : (rest : List ℕ) → rows_after s.reader (piece ++ rest) ≡ led_by_rows (rows_in s.reader piece) (rows_after s2.reader rest)) where
  tells : (rest : List ℕ) → rows_of ((read ++ piece) ++ rest) (inputs_of r.parts)
      ≡ led_by_rows (rows_in (empty_reading (inputs_of r.parts)) read ++ rows) (rows_after s2.reader rest)
  tells rest =
      told-more (inputs_of r.parts) read piece rest s.reader s2.reader stands.fed (cuts rest)
      ∙ ap (λ l. led_by_rows (rows_in (empty_reading (inputs_of r.parts)) read ++ l) (rows_after s2.reader rest)) (sym are)

  tells-rows : (rest : List ℕ) → (rows_of ((read ++ piece) ++ rest) (inputs_of r.parts)).rows
      ≡ rows_in (empty_reading (inputs_of r.parts)) read ++ (rows ++ (rows_after s2.reader rest).rows)
  tells-rows rest = ap (λ (t : RowsRead). t.rows) (tells rest) ∙ append_assoc (rows_in (empty_reading (inputs_of r.parts)) read) rows (rows_after s2.reader rest).rows

  -- what is written of them couldn't all be written
  pub piece-failed : (ended : Finish) → (ended ≡ finish.WriteFault) ⊎ (ended ≡ finish.NoMemory) →
      AppendsFront now (report_from s.ticks.report (s.ticks.done + 1) r rows) now2 →
      (rest : List ℕ) → RunEnds report (runner_at start r.parts) ((read ++ piece) ++ rest) before now2 r2 ended
  piece-failed ended why front rest =
      ends-front report start r.parts read before s r now stands ((read ++ piece) ++ rest) rows (rows_after s2.reader rest).rows (tells-rows rest)
      now2 r2 ended why (front-so report s.ticks.report (s.ticks.done + 1) r rows now now2 stands.reports front)

  module _ (fault : Option RowFault) (found : fault ≡ fault_in s.reader piece) (stop : IfSome fault (λ f. s2.reader.stop ≡ Some f))
      (unended : s2.reader.ended ≡ false)
      (joins : fault ≡ None → (more : List ℕ) → (rows_in s.reader (piece ++ more) ≡ rows_in s.reader piece
      ++ rows_in s2.reader more) × (fault_in s.reader (piece ++ more) ≡ fault_in s2.reader more))
      (last : Last) (came : last ≡ (trace_from r rows).last)
      (wrote : Appends now (report_from s.ticks.report (s.ticks.done + 1) r rows) now2)
      (after : last ≡ Open → r2 ≡ after_rows r rows) (live : last ≡ Open → r2.live ≡ true)
      (over : (last ≡ Open → ⊥) → r2.live ≡ false) (same_parts : r2.parts ≡ r.parts) (same_report : s2.ticks.report ≡ s.ticks.report)
      (done : last ≡ Open → s2.ticks.done ≡ s.ticks.done + length rows)
      (long : length s2.ticks.outputs ≡ length (outputs_of r.parts)) (state : fault ≡ None → s2.reader ≡ read_on s.reader piece)
      (short : length s2.reader.line ≤ 65536) where
    all-rows : rows_in (empty_reading (inputs_of r.parts)) read ++ rows ≡ rows_in (empty_reading (inputs_of r.parts)) (read ++ piece)
    all-rows = ap (λ l. rows_in (empty_reading (inputs_of r.parts)) read ++ l) are ∙ sym (stands.fed.rows piece)

    grew : Appends now (report_from report (s.ticks.done + 1) r rows) now2
    grew = reported-so report s.ticks.report (s.ticks.done + 1) r rows now now2 stands.reports wrote

    has-run : HasRun r rows r2
    has-run = record {
      going = λ still. after (came ∙ still);
      closed = λ not. over (λ still. not (sym came ∙ still));
      parts = same_parts;
    }

    stands-on : last ≡ Open → fault ≡ None → RunStands report start r.parts (read ++ piece) before s2 r2 now2
    stands-on e none = record {
      fed = fed-more (inputs_of r.parts) read piece s.reader s2.reader stands.fed (sym found ∙ none) (state none) cuts (joins none) unended;
      runs =
          after e ∙ ap (λ q. after_rows q rows) stands.runs
          ∙ sym (after-more (runner_at start r.parts) (rows_in (empty_reading (inputs_of r.parts)) read) rows)
          ∙ ap (after_rows (runner_at start r.parts)) all-rows;
      parts = ap (λ (q : Running). q.parts) (after e) ∙ after-parts r rows;
      live = live e;
      low = reads-low s.reader s2.reader piece stands.low (sym found ∙ none) (state none);
      short = short;
      running =
          ap (λ l. (trace_from (runner_at start r.parts) l).last) (sym all-rows)
          ∙ last-more report start r.parts read before s r now stands rows ∙ sym came ∙ e;
      done =
          let count = done e in
          let first = stands.done in
          let both = length-append (rows_in (empty_reading (inputs_of r.parts)) read) rows in
          let all = ap length all-rows in
          omega arith;
      reports = same_report ∙ stands.reports;
      outputs = long;
      written =
          subst (λ text. Appends before text now2)
          (sym (text-more report start r.parts read before s r now stands rows) ∙ ap (λ l. report_of report (runner_at start r.parts) l) all-rows)
          (Appends-trans before now now2 (report_of report (runner_at start r.parts) (rows_in (empty_reading (inputs_of r.parts)) read))
          (report_from report (s.ticks.done + 1) r rows) stands.written grew);
    }

    stopped-by : (f : RowFault) → fault ≡ Some f → s2.reader.stop ≡ Some f
    stopped-by f e = subst (λ o. IfSome o (λ f. s2.reader.stop ≡ Some f)) e stop

    ends-bad : (f : RowFault) → last ≡ Open → fault ≡ Some f → (rest : List ℕ) →
        RunEnds report (runner_at start r.parts) ((read ++ piece) ++ rest) before now2 r2 (finish_of Open (Some f))
    ends-bad f e g rest =
        let none = stopped_told s2.reader rest f (stopped-by f g) in
        ends-whole report start r.parts read before s r now stands ((read ++ piece) ++ rest) rows (rows_after s2.reader rest).rows
        (tells-rows rest) now2 r2 (finish_of Open (Some f)) (ap (λ (t : RowsRead). t.rows) none) has-run
        (ap (λ l. finish_of l (Some f)) (sym e ∙ came) ∙ ap (finish_of (trace_from r rows).last)
        (sym (ap (λ (t : RowsRead). t.fault) (tells rest) ∙ ap (λ (t : RowsRead). t.fault) none))) grew

    ends-by : (l : Last) → last ≡ l → (l ≡ Open → ⊥) → (ended : Finish) → ((o : Option RowFault) → ended ≡ finish_of l o) →
        (rest : List ℕ) → RunEnds report (runner_at start r.parts) ((read ++ piece) ++ rest) before now2 r2 ended
    ends-by l e not ended is rest =
        ends-closed report start r.parts read before s r now stands ((read ++ piece) ++ rest) rows (rows_after s2.reader rest).rows
        (tells-rows rest) now2 r2 ended (λ o. not (sym e ∙ came ∙ o)) has-run
        (is (rows_of ((read ++ piece) ++ rest) (inputs_of r.parts)).fault
        ∙ ap (λ x. finish_of x (rows_of ((read ++ piece) ++ rest) (inputs_of r.parts)).fault) (sym e ∙ came)) grew

    leaves : (l : Last) (f : Option RowFault) → last ≡ l → fault ≡ f →
        Leaves report start r.parts (read ++ piece) before s2 r2 now2 (progress_of l f)
    leaves Open None e g = stands-on e g
    leaves Open (Some f) e g = ends-bad f e g
    leaves Ended f e g = ends-by Ended e (λ x. cc) finish.Done (λ o. refl)
    leaves Trap f e g = ends-by Trap e (λ x. cc) finish.Trapped (λ o. refl)

    pub piece-leaves : Leaves report start r.parts (read ++ piece) before s2 r2 now2 (progress_of last fault)
    piece-leaves = leaves last fault refl refl

left-open : (last : Last) (fault : Option RowFault) → progress_of last fault ≡ progress.Open → fault ≡ None
left-open Open None e = refl
left-open Open (Some f) e = absurd (cc)
left-open Ended fault e = absurd (cc)
left-open Trap fault e = absurd (cc)

-- a piece that leaves the run open moves the reader on
pub piece-further : (report : Report) (start : Start) (read piece : List ℕ) (before now : Option (List ℕ)) (s : Session) (t : Reading) (r : Running) →
    RunStands report start r.parts read before s r now → (last : Last) (fault : Option RowFault) →
    fault ≡ fault_in s.reader piece → (fault ≡ None → t ≡ read_on s.reader piece) → progress_of last fault ≡ progress.Open →
    reach s.reader + length piece ≤ reach t
piece-further report start read piece before now s t r stands last fault found state is =
    let none = left-open last fault is in
    reads-on s.reader t piece stands.low (sym found ∙ none) (state none)

-- what is asked for before the rows of a piece run
pub piece-fit : (report : Report) (start : Start) (read piece : List ℕ) (before now : Option (List ℕ)) (s : Session) (t : Reading) (r : Running) →
    RunStands report start r.parts read before s r now → (rows : List (List ℤ)) → rows ≡ rows_in s.reader piece →
    ((rest : List ℕ) → rows_after s.reader (piece ++ rest) ≡ led_by_rows (rows_in s.reader piece) (rows_after t rest)) →
    RowsFit (inputs_of r.parts) rows
piece-fit report start read piece before now s t r stands rows are cuts =
    subst (RowsFit (inputs_of r.parts)) (sym are) (piece-fits (inputs_of r.parts) read piece s.reader t stands.fed cuts)

pub piece-few-left : (report : Report) (start : Start) (read piece : List ℕ) (before now : Option (List ℕ)) (s : Session) (t : Reading) (r : Running) →
    RunStands report start r.parts read before s r now → (rows : List (List ℤ)) → rows ≡ rows_in s.reader piece →
    ((rest : List ℕ) → rows_after s.reader (piece ++ rest) ≡ led_by_rows (rows_in s.reader piece) (rows_after t rest)) →
    s.ticks.done + length rows ≤ 1000000
piece-few-left report start read piece before now s t r stands rows are cuts =
    let few = piece-few (inputs_of r.parts) read piece s.reader t stands.fed cuts in
    let long = ap length are in
    let done = stands.done in
    omega arith

-- ---- the end of the file

-- what is asked for before the last row runs
pub last-fit : (report : Report) (start : Start) (read : List ℕ) (before now : Option (List ℕ)) (s : Session) (r : Running) →
    RunStands report start r.parts read before s r now →
    (rows : List (List ℤ)) → rows ≡ (rows_after s.reader []).rows → RowsFit (inputs_of r.parts) rows
last-fit report start read before now s r stands rows are =
    subst (RowsFit (inputs_of r.parts)) (sym are) (end-fits (inputs_of r.parts) read s.reader stands.fed)

pub last-few-left : (report : Report) (start : Start) (read : List ℕ) (before now : Option (List ℕ)) (s : Session) (r : Running) →
    RunStands report start r.parts read before s r now →
    (rows : List (List ℤ)) → rows ≡ (rows_after s.reader []).rows → s.ticks.done + length rows ≤ 1000000
last-few-left report start read before now s r stands rows are =
    let few = end-few (inputs_of r.parts) read s.reader stands.fed in
    let long = ap length are in
    let done = stands.done in
    omega arith

module _ (report : Report) (start : Start) (read : List ℕ) (before now now2 : Option (List ℕ)) (s : Session) (r r2 : Running)
    (stands : RunStands report start r.parts read before s r now)
    (rows : List (List ℤ)) (are : rows ≡ (rows_after s.reader []).rows) where
  end-rows : (rows_of read (inputs_of r.parts)).rows ≡ rows_in (empty_reading (inputs_of r.parts)) read ++ (rows ++ [])
  end-rows =
      ap (λ (t : RowsRead). t.rows) (end-told (inputs_of r.parts) read s.reader stands.fed)
      ∙ ap (λ l. rows_in (empty_reading (inputs_of r.parts)) read ++ l) (sym are ∙ sym (append-nil rows))

  pub last-failed : (ended : Finish) → (ended ≡ finish.WriteFault) ⊎ (ended ≡ finish.NoMemory) →
      AppendsFront now (report_from s.ticks.report (s.ticks.done + 1) r rows) now2 →
      RunEnds report (runner_at start r.parts) read before now2 r2 ended
  last-failed ended why front =
      ends-front report start r.parts read before s r now stands read rows [] end-rows now2 r2 ended why
      (front-so report s.ticks.report (s.ticks.done + 1) r rows now now2 stands.reports front)

  pub last-ends : (fault : Option RowFault) → fault ≡ (rows_after s.reader []).fault → (last : Last) → last ≡ (trace_from r rows).last →
      Appends now (report_from s.ticks.report (s.ticks.done + 1) r rows) now2 → (last ≡ Open → r2 ≡ after_rows r rows) →
      ((last ≡ Open → ⊥) → r2.live ≡ false) → r2.parts ≡ r.parts → (ended : Finish) →
      ended ≡ finish_of last fault → RunEnds report (runner_at start r.parts) read before now2 r2 ended
  last-ends fault found last came wrote after over parts ended is =
      ends-whole report start r.parts read before s r now stands read rows [] end-rows now2 r2 ended refl
      (record { going = λ still. after (came ∙ still); closed = λ not. over (λ still. not (sym came ∙ still)); parts = parts })
      (is ∙ ap (λ l. finish_of l fault) came ∙ ap (finish_of (trace_from r rows).last)
      (found ∙ sym (ap (λ (t : RowsRead). t.fault) (end-told (inputs_of r.parts) read s.reader stands.fed))))
      (reported-so report s.ticks.report (s.ticks.done + 1) r rows now now2 stands.reports wrote)
