use Rattle.bl_machine_laws.proofs.OnNumbers.Walking.{turn_waits}
use Rattle.bl_machine_laws.proofs.numbers.turns_wait.Goals as goal

pub returns : goal.returns
returns c w rank i tree done n after next t = turn_waits next t
