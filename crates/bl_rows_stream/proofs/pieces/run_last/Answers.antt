use Rattle.std.proofs.Common.{[], ◌++◌, ap, inr, refl, ◌∙◌}
use Rattle.bl_rows.specs.Reading.{rows_after}
use Rattle.bl_rows_stream.specs.declared.finish.Finish.TheVariants.{NoMemory}
use Rattle.bl_rows_stream.proofs.PieceEnds.{last-ends, last-failed, last-few-left, last-fit, last-refused}
use Rattle.bl_rows_stream.proofs.Steadily.{extends-all, extends-front, extends-same}
use Rattle.bl_rows_stream.proofs.pieces.run_last.Goals as goal

pub returns-in_default-clause-ends : goal.returns-in_default-clause-ends
returns-in_default-clause-ends g c = λ report start read before stands.
    last-refused report start read before _ c.args.session.now c.args.runner.now c.args.runner.now stands NoMemory (inr refl)

pub run_and_write-requires-clause-fit : goal.run_and_write-requires-clause-fit
run_and_write-requires-clause-fit g c =
    let given = c.requires.stands in
    let rows = (rows_after c.args.session.now.reader []).rows in
    last-fit given.0 given.1 given.2 given.3 _ c.args.session.now c.args.runner.now given.4 c.deref.result.now
    (c.deref.ensures.value ∙ c.in-Ok.ensures.rows ∙ ap (λ l. l ++ rows) c.new-rows.ensures.items)

pub run_and_write-requires-clause-few : goal.run_and_write-requires-clause-few
run_and_write-requires-clause-few g c =
    let given = c.requires.stands in
    let rows = (rows_after c.args.session.now.reader []).rows in
    last-few-left given.0 given.1 given.2 given.3 _ c.args.session.now c.args.runner.now given.4 c.deref.result.now
    (c.deref.ensures.value ∙ c.in-Ok.ensures.rows ∙ ap (λ l. l ++ rows) c.new-rows.ensures.items)

pub returns-in-Ok-run_and_write-clause-ends : goal.returns-in-Ok-run_and_write-clause-ends
returns-in-Ok-run_and_write-clause-ends g c =
    let rows = (rows_after c.args.session.now.reader []).rows in
    let ran = c.in-Ok-run_and_write.ensures in
    λ report start read before stands.
    last-ends report start read before _ _ c.args.session.now c.args.runner.now c.run_and_write.new.runner stands c.deref.result.now
    (c.deref.ensures.value ∙ c.in-Ok.ensures.rows ∙ ap (λ l. l ++ rows) c.new-rows.ensures.items) c.in-Ok.fault
    c.in-Ok.ensures.fault c.in-Ok-run_and_write.last ran.last ran.all ran.after ran.over ran.parts c.finish_by.result c.finish_by.ensures

pub returns-clause-ends : goal.returns-clause-ends
returns-clause-ends g c =
    let rows = (rows_after c.args.session.now.reader []).rows in
    λ report start read before stands.
    last-failed report start read before _ _ c.args.session.now c.args.runner.now c.run_and_write.new.runner stands c.deref.result.now
    (c.deref.ensures.value ∙ c.in-Ok.ensures.rows ∙ ap (λ l. l ++ rows) c.new-rows.ensures.items) c.in-Err.ended
    c.in-Err.ensures.why c.in-Err.ensures.front

pub returns-in_default-clause-grows : goal.returns-in_default-clause-grows
returns-in_default-clause-grows g c = extends-same (g.O.Sink.held c.args.out.now)

pub returns-in-Ok-run_and_write-clause-grows : goal.returns-in-Ok-run_and_write-clause-grows
returns-in-Ok-run_and_write-clause-grows g c = extends-all _ _ _ c.in-Ok-run_and_write.ensures.all

pub returns-clause-grows : goal.returns-clause-grows
returns-clause-grows g c = extends-front _ _ _ c.in-Err.ensures.front
