use Rattle.bl_machine_pass_laws_execution.proofs.OnFresh.Seeing.{deeds_are_seen}
use Rattle.bl_machine_pass_laws_execution.proofs.fresh.deeds_are_seen.Goals as goal

pub returns : goal.returns
returns c = deeds_are_seen c.instances_have_callers.ensures.homes
