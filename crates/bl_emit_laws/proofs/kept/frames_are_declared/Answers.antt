use Rattle.bl_emit_laws.proofs.OnKept.Declared.{frames_are_declared}
use Rattle.bl_emit_laws.proofs.kept.frames_are_declared.Goals as goal

pub returns : goal.returns
returns c program =
    frames_are_declared program c.accepted_programs_are_orderly.ensures c.activities_built.ensures c.written_is_kept.ensures
    (c.types_apart.ensures program) (c.instances_needed.ensures program)
