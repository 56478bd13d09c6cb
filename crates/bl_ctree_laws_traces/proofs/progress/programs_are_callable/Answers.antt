use Rattle.bl_ctree_laws_traces.proofs.OnProgress.Accepted.{programs_are_callable}
use Rattle.bl_ctree_laws_traces.proofs.progress.programs_are_callable.Goals as goal

pub returns : goal.returns
returns c = programs_are_callable
