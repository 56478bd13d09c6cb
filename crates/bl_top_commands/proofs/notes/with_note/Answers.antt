-- Each end of the write makes the end of the call.
use Rattle.std.proofs.Common.{ap, Err}
use Rattle.bl_top_commands.proofs.Lines.{appends_nothing, written_whole, written_fault, written_want, is_empty_from_test, is_some_from_test}
use Rattle.bl_top_commands.proofs.notes.with_note.Goals as goal

pub returns-then-is_empty-clause-written : goal.returns-then-is_empty-clause-written
returns-then-is_empty-clause-written g c = written_whole _ _ _ _ c.line_of-line.ensures
    (appends_nothing _ _ (is_empty_from_test _ _ c.is_empty.ensures c.if-is_empty.true))

pub returns-in-Ok-clause-written : goal.returns-in-Ok-clause-written
returns-in-Ok-clause-written g c = written_whole _ _ _ _ c.line_of-line.ensures c.in-Ok.ensures.all

pub returns-in-Err-Failed-clause-written : goal.returns-in-Err-Failed-clause-written
returns-in-Err-Failed-clause-written g c = written_fault _ _ _ _ c.line_of-line.ensures
    (is_some_from_test _ _ c.is_empty.ensures c.if-is_empty.false) c.in-Err-Failed.ensures.err
    (c.in-Err-Failed.ensures.failed (ap Err c.in-Err-Failed.field-0-is))

pub returns-in-Err-NoMemory-clause-written : goal.returns-in-Err-NoMemory-clause-written
returns-in-Err-NoMemory-clause-written g c = written_want _ _ _ _ c.line_of-line.ensures
    (is_some_from_test _ _ c.is_empty.ensures c.if-is_empty.false) c.in-Err-NoMemory.ensures.err
