use Rattle.bl_ctree_laws_confluence.proofs.OnDeeds.Origins.{homes_lead_out, instances_have_callers_so}
use Rattle.bl_ctree_laws_confluence.proofs.deeds.instances_have_callers.Goals as goal

pub returns : goal.returns
returns c = record { callers = instances_have_callers_so; homes = homes_lead_out }
