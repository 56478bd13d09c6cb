use Rattle.bl_machine_laws.proofs.OnNumbers.Sleeping.{sleeper_waits}
use Rattle.bl_machine_laws.proofs.numbers.sleepers_wait.Goals as goal

pub returns : goal.returns
returns c tree next n h = sleeper_waits tree next n h
