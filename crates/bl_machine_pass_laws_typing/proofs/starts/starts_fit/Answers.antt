use Rattle.bl_machine_pass_laws_typing.proofs.OnStarts.{starts_typed}
use Rattle.bl_machine_pass_laws_typing.proofs.starts.starts_fit.Goals as goal

pub returns : goal.returns
returns c = starts_typed c.instances_have_callers.ensures.callers
