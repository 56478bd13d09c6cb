use Rattle.bl_machine_pass_laws.proofs.OnRooted.Resuming.{only_resumes}
use Rattle.bl_machine_pass_laws.proofs.rooted.only_resumes_begin.Goals as goal

pub returns : goal.returns
returns c = only_resumes c.woken_rested.ensures c.sleepers_wait.ensures c.spots_differ.ensures c.nodes_differ.ensures
