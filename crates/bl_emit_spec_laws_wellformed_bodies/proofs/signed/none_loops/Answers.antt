use Rattle.bl_emit_spec_laws_wellformed_bodies.proofs.OnSigned.Turns.{quiet}
use Rattle.bl_emit_spec_laws_wellformed_bodies.proofs.signed.none_loops.Goals as goal

pub returns : goal.returns
returns c = quiet
