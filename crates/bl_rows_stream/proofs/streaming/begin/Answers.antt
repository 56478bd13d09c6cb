use Rattle.std.proofs.Common.{◌≡◌, ap, subst, ◌∙◌}
use Rattle.bl_ctext_semantics.specs.Cells.{outputs_of}
use Rattle.bl_io.specs.Held.{Appends}
use Rattle.bl_rows_stream.specs.Reports.{report_header}
use Rattle.bl_rows_stream.specs.Streams.{AppendsFront}
use Rattle.bl_rows_stream.proofs.Steps.{header-front, nothing-front, stands-first}
use Rattle.bl_rows_stream.proofs.streaming.begin.Goals as goal

pub returns-in_default-clause-ends : goal.returns-in_default-clause-ends
returns-in_default-clause-ends g c = λ bytes. nothing-front c.args.report c.args.runner.now bytes (g.O.Sink.held c.args.out.now) c.args.runner.now

pub returns-in_default-heading-clause-ends : goal.returns-in_default-heading-clause-ends
returns-in_default-heading-clause-ends g c = λ bytes. nothing-front c.args.report c.args.runner.now bytes (g.O.Sink.held c.args.out.now) c.args.runner.now

pub returns-in-Ok-write-clause-stands : goal.returns-in-Ok-write-clause-stands
returns-in-Ok-write-clause-stands g c =
    let text : c.as_slice.result.now ≡ report_header c.args.report (outputs_of c.args.runner.now.parts) =
    c.as_slice.ensures.value ∙ c.in-Ok-heading.ensures ∙ ap (report_header c.args.report) c.outputs.ensures in
    stands-first c.args.report c.args.runner.now c.in-Ok.session (g.O.Sink.held c.args.out.now)
    (g.O.Sink.held c.write.new.out) c.requires.live c.in-Ok.ensures.begun c.in-Ok.ensures.fed c.in-Ok.ensures.done c.in-Ok.ensures.report
    c.in-Ok.ensures.outputs
    (subst (λ t. Appends (g.O.Sink.held c.args.out.now) t (g.O.Sink.held c.write.new.out)) text c.in-Ok-write.ensures.all)

pub returns-in-Err-clause-ends : goal.returns-in-Err-clause-ends
returns-in-Err-clause-ends g c =
    let text : c.as_slice.result.now ≡ report_header c.args.report (outputs_of c.args.runner.now.parts) =
    c.as_slice.ensures.value ∙ c.in-Ok-heading.ensures ∙ ap (report_header c.args.report) c.outputs.ensures in
    λ bytes.
    header-front c.args.report c.args.runner.now bytes (g.O.Sink.held c.args.out.now) (g.O.Sink.held c.write.new.out) c.args.runner.now
    c.in-Err.finish c.in-Err.ensures.why
    (subst (λ t. AppendsFront (g.O.Sink.held c.args.out.now) t (g.O.Sink.held c.write.new.out)) text c.in-Err.ensures.front)
