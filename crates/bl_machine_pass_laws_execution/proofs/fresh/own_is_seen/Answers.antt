use Rattle.bl_machine_pass_laws_execution.proofs.OnFresh.Seeing.{own_is_seen}
use Rattle.bl_machine_pass_laws_execution.proofs.fresh.own_is_seen.Goals as goal

pub returns : goal.returns
returns c = own_is_seen c.instances_have_callers.ensures.homes
