use Rattle.bl_emit_spec_laws_wellformed.proofs.OnSpelled.Whole.{frames}
use Rattle.bl_emit_spec_laws_wellformed.proofs.spelled.frames_spelled.Goals as goal

pub returns : goal.returns
returns c program =
    frames program.structs program.units program.entry
