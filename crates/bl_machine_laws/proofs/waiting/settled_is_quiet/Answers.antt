use Rattle.bl_ctree_laws_traces.specs.Progress.Places.{whole}
use Rattle.bl_machine_laws.proofs.OnWaiting.Quiet.{quiet_branch}
use Rattle.bl_machine_laws.proofs.waiting.settled_is_quiet.Goals as goal

pub returns : goal.returns
returns c w i stood body tree n live settled h = quiet_branch w i (whole stood body) tree n live settled h
