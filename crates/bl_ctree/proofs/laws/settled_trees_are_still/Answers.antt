use Rattle.bl_ctree.proofs.Settling.{settled_is_still}
use Rattle.bl_ctree.proofs.laws.settled_trees_are_still.Goals as goal

pub returns : goal.returns
returns c = settled_is_still
