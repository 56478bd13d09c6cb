use Rattle.bl_emit_spec_laws_wellformed.proofs.OnNames.Locals.{memory}
use Rattle.bl_emit_spec_laws_wellformed.proofs.names.memory_differs.Goals as goal

pub returns : goal.returns
returns c = memory
