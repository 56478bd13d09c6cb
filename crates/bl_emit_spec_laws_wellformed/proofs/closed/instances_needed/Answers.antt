use Rattle.bl_emit_spec_laws_wellformed.proofs.OnClosed.Instances.{instances_needed}
use Rattle.bl_emit_spec_laws_wellformed.proofs.closed.instances_needed.Goals as goal

pub returns : goal.returns
returns c program =
    instances_needed program.structs program.units program.entry (c.needed_closed.ensures program)
    c.instances_have_callers.ensures.callers
