use Rattle.bl_machine_pass_laws.proofs.OnRooted.Resuming.{resumes}
use Rattle.bl_machine_pass_laws.proofs.rooted.resumes_begin.Goals as goal

pub returns : goal.returns
returns c = resumes c.woken_rested.ensures c.sleepers_wait.ensures c.spots_differ.ensures c.nodes_differ.ensures
