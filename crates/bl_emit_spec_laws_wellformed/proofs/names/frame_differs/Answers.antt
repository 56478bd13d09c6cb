use Rattle.bl_emit_spec_laws_wellformed.proofs.OnNames.Locals.{frame}
use Rattle.bl_emit_spec_laws_wellformed.proofs.names.frame_differs.Goals as goal

pub returns : goal.returns
returns c = frame
