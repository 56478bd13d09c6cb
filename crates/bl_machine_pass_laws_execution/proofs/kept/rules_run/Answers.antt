use Rattle.bl_machine_pass_laws_execution.proofs.OnKept.Ruling.{rules_run}
use Rattle.bl_machine_pass_laws_execution.proofs.kept.rules_run.Goals as goal

pub returns : goal.returns
returns c = rules_run c.trees_stay_placed.ensures
