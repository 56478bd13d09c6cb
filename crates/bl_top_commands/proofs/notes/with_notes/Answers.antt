-- Each end of the writes makes the end of the call.
use Rattle.std.proofs.Common.{ap, sym, subst, ◌∙◌, [], Err, ◌≢◌}
use Rattle.bl_io.specs.Held.{Appends, AppendsPart}
use Rattle.bl_top_commands.proofs.Lines.{is_empty_from_test, is_some_from_test, written_alone, written_before_fault, written_before_want, written_behind}
use Rattle.bl_top_commands.proofs.notes.with_notes.Goals as goal

pub returns-then-is_empty-clause-written : goal.returns-then-is_empty-clause-written
returns-then-is_empty-clause-written g c =
    written_alone _ _ _ _ _ (sym c.as_slice-told.ensures.value ∙ is_empty_from_test _ _ c.is_empty.ensures c.if-is_empty.true)
    c.with_note.ensures.written

pub returns-in-Ok-clause-written : goal.returns-in-Ok-clause-written
returns-in-Ok-clause-written g c =
    written_behind _ _ _ _ _ _ _ c.write_all.ensures.counts
    (subst (λ t. Appends (g.N.Sink.held c.args.notes.now) t (g.N.Sink.held c.write_all.new.out)) c.as_slice-told.ensures.value c.in-Ok.ensures.all)
    c.with_note-in-Ok.ensures.written

pub returns-in-Err-Failed-clause-written : goal.returns-in-Err-Failed-clause-written
returns-in-Err-Failed-clause-written g c =
    written_before_fault _ _ _ _ (subst (λ t. t ≢ []) c.as_slice-told.ensures.value (is_some_from_test _ _ c.is_empty.ensures c.if-is_empty.false))
    (subst (λ t. AppendsPart (g.N.Sink.held c.args.notes.now) t (g.N.Sink.held c.write_all.new.out)) c.as_slice-told.ensures.value
    c.in-Err-Failed.ensures.err)
    (c.in-Err-Failed.ensures.failed (ap Err c.in-Err-Failed.field-0-is))

pub returns-in-Err-NoMemory-clause-written : goal.returns-in-Err-NoMemory-clause-written
returns-in-Err-NoMemory-clause-written g c =
    written_before_want _ _ _ _ (subst (λ t. t ≢ []) c.as_slice-told.ensures.value (is_some_from_test _ _ c.is_empty.ensures c.if-is_empty.false))
    (subst (λ t. AppendsPart (g.N.Sink.held c.args.notes.now) t (g.N.Sink.held c.write_all.new.out)) c.as_slice-told.ensures.value
    c.in-Err-NoMemory.ensures.err)
