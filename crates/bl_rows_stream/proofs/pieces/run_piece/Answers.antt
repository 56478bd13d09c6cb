use Rattle.std.proofs.Common.{◌++◌, ap, inr, refl, subst, sym, ◌∙◌}
use Rattle.bl_rows.specs.Reading.{rows_in}
use Rattle.bl_rows_stream.specs.inner.Going.{Leaves}
use Rattle.bl_rows_stream.specs.declared.finish.Finish.TheVariants.{NoMemory}
use Rattle.bl_rows_stream.specs.declared.pieces.Session.{Session}
use Rattle.bl_rows_stream.proofs.PieceEnds.{piece-failed, piece-few-left, piece-fit, piece-further, piece-leaves, piece-refused}
use Rattle.bl_rows_stream.proofs.Steadily.{extends-all, extends-front, extends-same}
use Rattle.bl_rows_stream.proofs.pieces.run_piece.Goals as goal

pub returns-in_default-clause-left : goal.returns-in_default-clause-left
returns-in_default-clause-left g c = λ report start read before stands rest. piece-refused report start read c.args.piece.now rest before _
    c.args.session.now c.args.runner.now c.args.runner.now stands NoMemory (inr refl)

pub run_and_write-requires-clause-fit : goal.run_and_write-requires-clause-fit
run_and_write-requires-clause-fit g c =
    let given = c.requires.stands in
    let rows = rows_in c.args.session.now.reader c.args.piece.now in
    piece-fit given.0 given.1 given.2 c.args.piece.now given.3 _ c.args.session.now c.feed.new.reader c.args.runner.now given.4 c.deref.result.now
    (c.deref.ensures.value ∙ c.in-Ok.ensures.rows ∙ ap (λ l. l ++ rows) c.new-rows.ensures.items) c.in-Ok.ensures.any_cut

pub run_and_write-requires-clause-few : goal.run_and_write-requires-clause-few
run_and_write-requires-clause-few g c =
    let given = c.requires.stands in
    let rows = rows_in c.args.session.now.reader c.args.piece.now in
    piece-few-left given.0 given.1 given.2 c.args.piece.now given.3 _ c.args.session.now c.feed.new.reader c.args.runner.now given.4
    c.deref.result.now
    (c.deref.ensures.value ∙ c.in-Ok.ensures.rows ∙ ap (λ l. l ++ rows) c.new-rows.ensures.items) c.in-Ok.ensures.any_cut

pub returns-in-Ok-run_and_write-clause-left : goal.returns-in-Ok-run_and_write-clause-left
returns-in-Ok-run_and_write-clause-left g c =
    let rows = rows_in c.args.session.now.reader c.args.piece.now in
    let session : Session = record { reader = c.feed.new.reader; ticks = c.run_and_write.new.ticks; text = c.run_and_write.new.text } in
    let ran = c.in-Ok-run_and_write.ensures in
    λ report start read before stands.
    subst (Leaves report start c.args.runner.now.parts (read ++ c.args.piece.now) before session c.run_and_write.new.runner
    (g.O.Sink.held c.run_and_write.new.out)) (sym c.progress_by.ensures)
    (piece-leaves report start read c.args.piece.now before _ _ c.args.session.now session c.args.runner.now c.run_and_write.new.runner stands
    c.deref.result.now
    (c.deref.ensures.value ∙ c.in-Ok.ensures.rows ∙ ap (λ l. l ++ rows) c.new-rows.ensures.items) c.in-Ok.ensures.any_cut
    c.in-Ok.fault c.in-Ok.ensures.fault c.in-Ok.ensures.stop c.in-Ok.ensures.unended
    c.in-Ok.ensures.joins c.in-Ok-run_and_write.last ran.last ran.all ran.after ran.live ran.over ran.parts ran.report ran.done ran.long
    c.in-Ok.ensures.state c.in-Ok.ensures.short)

pub returns-in-Ok-run_and_write-clause-further : goal.returns-in-Ok-run_and_write-clause-further
returns-in-Ok-run_and_write-clause-further g c = λ is.
    let given = c.requires.stands in
    piece-further given.0 given.1 given.2 c.args.piece.now given.3 _ c.args.session.now c.feed.new.reader c.args.runner.now
    given.4 c.in-Ok-run_and_write.last c.in-Ok.fault c.in-Ok.ensures.fault c.in-Ok.ensures.state
    (sym c.progress_by.ensures ∙ is)

pub returns-clause-left : goal.returns-clause-left
returns-clause-left g c =
    let rows = rows_in c.args.session.now.reader c.args.piece.now in
    let session : Session = record { reader = c.feed.new.reader; ticks = c.run_and_write.new.ticks; text = c.run_and_write.new.text } in
    λ report start read before stands rest.
    piece-failed report start read c.args.piece.now before _ _ c.args.session.now session c.args.runner.now c.run_and_write.new.runner stands
    c.deref.result.now
    (c.deref.ensures.value ∙ c.in-Ok.ensures.rows ∙ ap (λ l. l ++ rows) c.new-rows.ensures.items) c.in-Ok.ensures.any_cut
    c.in-Err.finish c.in-Err.ensures.why c.in-Err.ensures.front rest

pub returns-in_default-clause-grows : goal.returns-in_default-clause-grows
returns-in_default-clause-grows g c = extends-same (g.O.Sink.held c.args.out.now)

pub returns-in-Ok-run_and_write-clause-grows : goal.returns-in-Ok-run_and_write-clause-grows
returns-in-Ok-run_and_write-clause-grows g c = extends-all _ _ _ c.in-Ok-run_and_write.ensures.all

pub returns-clause-grows : goal.returns-clause-grows
returns-clause-grows g c = extends-front _ _ _ c.in-Err.ensures.front
