use Rattle.bl_machine_laws.proofs.OnNumbers.Sleeping.{turn_wakes}
use Rattle.bl_machine_laws.proofs.numbers.turns_only_wake.Goals as goal

pub returns : goal.returns
returns c w rank i tree done n after y t h = turn_wakes y t h
