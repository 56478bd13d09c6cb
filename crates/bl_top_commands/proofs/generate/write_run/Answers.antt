-- Each end of the write makes the end of the job.
use Rattle.std.proofs.Common.{◌∙◌, ap, sym, Err}
use Rattle.bl_top_commands.proofs.Lines.{written_fault, written_want, written_whole}
use Rattle.bl_top_commands.proofs.generate.write_run.Goals as goal

pub returns-in-Ok-clause-written : goal.returns-in-Ok-clause-written
returns-in-Ok-clause-written g c =
    rw c.end_at.ensures.status (written_whole _ _ _ _ c.as_slice.ensures.value c.in-Ok.ensures.all)

pub returns-in-Err-Failed-clause-written : goal.returns-in-Err-Failed-clause-written
returns-in-Err-Failed-clause-written g c =
    rw c.plain.ensures (written_fault _ _ _ _ c.as_slice.ensures.value (λ none. c.requires (sym c.as_slice.ensures.value ∙ none))
    c.in-Err-Failed.ensures.err (c.in-Err-Failed.ensures.failed (ap Err c.in-Err-Failed.field-0-is)))

pub returns-in-Err-NoMemory-clause-written : goal.returns-in-Err-NoMemory-clause-written
returns-in-Err-NoMemory-clause-written g c =
    rw c.plain-in-Err-NoMemory.ensures (written_want _ _ _ _ c.as_slice.ensures.value (λ none. c.requires (sym c.as_slice.ensures.value ∙ none))
    c.in-Err-NoMemory.ensures.err)
