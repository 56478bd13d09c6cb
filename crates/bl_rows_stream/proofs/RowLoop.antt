-- The loop over the ticks of rows.
use Rattle.std.proofs.Common.{◌≡◌, ℕ, ◌+◌, ◌<◌, ℤ, true, List, ◌∷◌, ◌++◌, length, drop, ap, sym, subst, ◌∙◌}
use Rattle.std.specs.List.{list_all}
use Rattle.bl_tree.proofs.Basics.{and_first, and_second}
use Rattle.bl_tree.specs.declared.row.Column.{Column}
use Rattle.bl_crun.specs.Running.{OutputsFit, Running, answer_of, outputs_after, reply_at, tick_at, unless_trapped}
use Rattle.bl_crun.specs.declared.tick.TickAnswer.{TickAnswer}
use Rattle.bl_crun.specs.declared.tick.TickAnswer.TheVariants as tick
use Rattle.bl_rows_stream.specs.Reports.{after_rows, report_from, trace_from}
use Rattle.bl_rows_stream.specs.declared.ticks.Report.{Report}
use Rattle.bl_tree.specs.Ports.{RowsFit, row_fits}
use Rattle.bl_rows_stream.proofs.Fits.{fits-long}

-- what is left over some rows gives what is asked for over all
pub record Onward (report : Report) (r : Running) (rows : List (List ℤ)) (done : ℕ) (said : List ℕ) (r2 : Running)
    (rows2 : List (List ℤ)) (done2 : ℕ) (said2 : List ℕ) : Type 0 where
  pub text : said2 ++ report_from report (done2 + 1) r2 rows2 ≡ said ++ report_from report (done + 1) r rows
  pub last : (trace_from r2 rows2).last ≡ (trace_from r rows).last
  pub after : after_rows r2 rows2 ≡ after_rows r rows

pub next-fits : (columns : List Column) (rows : List (List ℤ)) (k : ℕ) (row : List ℤ) → drop k rows ≡ row ∷ drop (k + 1) rows →
    RowsFit columns (drop k rows)
    → (row_fits columns row ≡ true) × RowsFit columns (drop (k + 1) rows)
next-fits columns rows k row is fit =
    let both : RowsFit columns (row ∷ drop (k + 1) rows) = subst (RowsFit columns) is fit in
    let rest = list_all (row_fits columns) (drop (k + 1) rows) in
    (and_first (row_fits columns row) rest both, and_second (row_fits columns row) rest both)

long-by : (answer : TickAnswer) (outs : List Column) (outputs told before : List ℤ) → told ≡ unless_trapped answer outputs before →
    OutputsFit outs answer told → length before ≡ length outs → length told ≡ length outs
long-by tick.Row outs outputs told before is fit long = fits-long outs told fit
long-by tick.Ended outs outputs told before is fit long = fits-long outs told fit
long-by tick.Trap outs outputs told before is fit long = ap length is ∙ long

-- a row of outputs stays as long as there are outputs
pub long-after : (outs : List Column) (r : Running) (ins told before : List ℤ) (answer : TickAnswer) → answer ≡ answer_of (reply_at r ins) →
    told ≡ outputs_after r ins before → OutputsFit outs answer told → length before ≡ length outs → length told ≡ length outs
long-after outs r ins told before answer is after fit long =
    long-by answer outs (tick_at r ins).outputs told before (after ∙ ap (λ a. unless_trapped a (tick_at r ins).outputs before) (sym is)) fit long
