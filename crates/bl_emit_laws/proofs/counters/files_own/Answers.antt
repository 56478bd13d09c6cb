use Rattle.bl_emit_laws.proofs.OnCounters.Whole.{files_own}
use Rattle.bl_emit_laws.proofs.counters.files_own.Goals as goal

pub returns : goal.returns
returns c program =
    files_own program c.accepted_programs_are_orderly.ensures c.activities_built.ensures (c.instances_needed.ensures program)
    (c.frames_are_declared.ensures program) (c.files_end.ensures program)
