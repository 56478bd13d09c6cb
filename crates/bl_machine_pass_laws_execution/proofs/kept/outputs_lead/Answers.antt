use Rattle.bl_machine_pass_laws_execution.proofs.OnKept.Outputs.{outputs_lead}
use Rattle.bl_machine_pass_laws_execution.proofs.kept.outputs_lead.Goals as goal

pub returns : goal.returns
returns c = outputs_lead c.instances_have_callers.ensures.callers c.instances_have_callers.ensures.homes
