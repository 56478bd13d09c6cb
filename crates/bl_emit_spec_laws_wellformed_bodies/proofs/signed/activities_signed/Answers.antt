use Rattle.bl_emit_spec_laws_wellformed_bodies.proofs.OnSigned.Head.{signed}
use Rattle.bl_emit_spec_laws_wellformed_bodies.proofs.signed.activities_signed.Goals as goal

pub returns : goal.returns
returns c = signed
