use Rattle.bl_machine_pass_laws_execution.proofs.OnFresh.Bounding.{bodies_ask}
use Rattle.bl_machine_pass_laws_execution.proofs.fresh.bodies_ask.Goals as goal

pub returns : goal.returns
returns c = bodies_ask c.instances_have_callers.ensures.callers
