use Rattle.bl_emit_spec_laws_wellformed.proofs.OnNames.Locals.{locals}
use Rattle.bl_emit_spec_laws_wellformed.proofs.names.locals_differ.Goals as goal

pub returns : goal.returns
returns c = locals
