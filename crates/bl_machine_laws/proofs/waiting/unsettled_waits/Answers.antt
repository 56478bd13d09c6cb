use Rattle.bl_ctree_laws_traces.specs.Progress.Places.{whole}
use Rattle.bl_machine_laws.proofs.OnWaiting.Quiet.{something_waits}
use Rattle.bl_machine_laws.proofs.waiting.unsettled_waits.Goals as goal

pub returns : goal.returns
returns c w i stood body tree live passed unsettled = something_waits w i (whole stood body) tree live passed unsettled
