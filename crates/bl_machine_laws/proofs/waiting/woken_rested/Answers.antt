use Rattle.bl_ctree_laws_traces.specs.Progress.Places.{whole}
use Rattle.bl_machine_laws.proofs.OnWaiting.Waking.{branch_rested}
use Rattle.bl_machine_laws.proofs.waiting.woken_rested.Goals as goal

pub returns : goal.returns
returns c w i stood body tree n live settled h = branch_rested w i (whole stood body) tree n live settled h
