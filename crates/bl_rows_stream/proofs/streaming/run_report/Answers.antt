use Rattle.std.proofs.Common.{inl, inr, subst}
use Rattle.bl_rows.specs.Reading.{most_lines}
use Rattle.bl_rows_stream.specs.Streams.{KeepsUp, Reported}
use Rattle.bl_rows_stream.specs.inner.Going.{runner_start}
use Rattle.bl_rows_stream.proofs.Steps.{bytes-left, reads-none, reported-by, runner-same}
use Rattle.bl_rows_stream.proofs.Takings.{kept-same}
use Rattle.bl_rows_stream.proofs.streaming.run_report.Goals as goal

pub run_all-requires : goal.run_all-requires
run_all-requires g c = record { begun = (c.args.report, runner_start c.args.runner.now, g.O.Sink.held c.args.out.now, c.in-Ok.ensures.stands) }

pub returns-in-Ok-clause-reported : goal.returns-in-Ok-clause-reported
returns-in-Ok-clause-reported g c =
    let left = g.F.Files.left c.args.files.now c.args.rows.now in
    let rest = g.F.Files.left c.run_all.new.files c.args.rows.now in
    let before = g.O.Sink.held c.args.out.now in
    subst (λ r. Reported c.args.report r left rest before (g.O.Sink.held c.run_all.new.out) c.run_all.new.runner c.run_all.result)
    (runner-same c.args.runner.now c.requires.live)
    (c.run_all.ensures.reported c.args.report (runner_start c.args.runner.now) before c.in-Ok.ensures.stands)

pub returns-in-Err-clause-reported : goal.returns-in-Err-clause-reported
returns-in-Err-clause-reported g c =
    let every = g.F.Files.left c.args.files.now c.args.rows.now in
    let bytes = bytes-left every in
    reported-by c.args.report c.args.runner.now every _ _ _ c.args.runner.now bytes.0 c.in-Err.finish bytes.1 (c.in-Err.ensures.ends bytes.0)

pub returns-in-Err-clause-reads : goal.returns-in-Err-clause-reads
returns-in-Err-clause-reads g c = reads-none most_lines (g.F.Files.left c.args.files.now c.args.rows.now)

pub returns-in-Ok-clause-in_step : goal.returns-in-Ok-clause-in_step
returns-in-Ok-clause-in_step g c =
    let left = g.F.Files.left c.args.files.now c.args.rows.now in
    let rest = g.F.Files.left c.run_all.new.files c.args.rows.now in
    let before = g.O.Sink.held c.args.out.now in
    inr (subst (λ r. KeepsUp c.args.report r left rest before (g.O.Sink.held c.run_all.new.out)) (runner-same c.args.runner.now c.requires.live)
    (c.run_all.ensures.keeps_up c.args.report (runner_start c.args.runner.now) before c.in-Ok.ensures.stands))

pub returns-in-Err-clause-in_step : goal.returns-in-Err-clause-in_step
returns-in-Err-clause-in_step g c = inl (kept-same (g.F.Files.left c.args.files.now c.args.rows.now))
