use Rattle.bl_machine_laws.proofs.OnWaiting.Quiet.{waits_now}
use Rattle.bl_machine_laws.proofs.waiting.waits_in_part.Goals as goal

pub returns : goal.returns
returns c w i stood body tree n live h = waits_now w i stood body tree n live h
