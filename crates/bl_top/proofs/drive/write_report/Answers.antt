-- Each end of the write makes the answer.
use Rattle.std.proofs.Common.{ap, subst, ◌∙◌, rules, Err, refl}
use Rattle.bl_top_commands.specs.declared.outcome.Outcome.{Outcome}
use Rattle.bl_io.specs.Held.{Appends, AppendsPart}
use Rattle.bl_top.specs.inner.Driven.{failed, refused, wrote}
use Rattle.bl_top.proofs.drive.write_report.Goals as goal

pub returns-in-Ok-clause-writes : goal.returns-in-Ok-clause-writes
returns-in-Ok-clause-writes g c =
    wrote (subst (λ t. Appends (g.O.Sink.held c.args.out.now) t (g.O.Sink.held c.write_all.new.out)) c.as_slice.ensures.value c.in-Ok.ensures.all)
    (search rules) (search rules) (search rules)

pub returns-in-Err-Failed-clause-writes : goal.returns-in-Err-Failed-clause-writes
returns-in-Err-Failed-clause-writes g c =
    failed
    (subst (λ t. AppendsPart (g.O.Sink.held c.args.out.now) t (g.O.Sink.held c.write_all.new.out)) c.as_slice.ensures.value c.in-Err-Failed.ensures.err)
    (c.in-Err-Failed.ensures.failed (ap Err c.in-Err-Failed.field-0-is)) c.alone.ensures.told
    (ap (λ (o : Outcome). o.status) c.alone.ensures.outcome ∙ c.plain.ensures)

pub returns-clause-writes : goal.returns-clause-writes
returns-clause-writes g c =
    refused
    (subst (λ t. AppendsPart (g.O.Sink.held c.args.out.now) t (g.O.Sink.held c.write_all.new.out)) c.as_slice.ensures.value c.in-Err-NoMemory.ensures.err)
    c.alone-in-Err-NoMemory.ensures.told
    (ap (λ (o : Outcome). o.status) c.alone-in-Err-NoMemory.ensures.outcome ∙ c.plain-in-Err-NoMemory.ensures)
