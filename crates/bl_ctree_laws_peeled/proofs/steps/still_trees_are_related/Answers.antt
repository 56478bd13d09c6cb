use Rattle.bl_ctree_laws_peeled.proofs.Stilling.{still_is_related}
use Rattle.bl_ctree_laws_peeled.proofs.steps.still_trees_are_related.Goals as goal

pub returns : goal.returns
returns c = still_is_related
