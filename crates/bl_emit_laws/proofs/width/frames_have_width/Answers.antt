use Rattle.bl_emit_laws.proofs.OnWidth.Whole.{frames_wide}
use Rattle.bl_emit_laws.proofs.width.frames_have_width.Goals as goal

pub returns : goal.returns
returns c program =
    frames_wide program c.accepted_programs_are_orderly.ensures c.activities_take_their_width.ensures (c.frames_are_declared.ensures program)
