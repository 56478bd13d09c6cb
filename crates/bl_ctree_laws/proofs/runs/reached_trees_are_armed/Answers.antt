use Rattle.bl_ctree_laws.proofs.Fitting.{reached_is_armed}
use Rattle.bl_ctree_laws.proofs.runs.reached_trees_are_armed.Goals as goal

pub returns : goal.returns
returns c = reached_is_armed
