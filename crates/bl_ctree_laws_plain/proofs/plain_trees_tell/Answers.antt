use Rattle.bl_ctree_laws_plain.proofs.Recovering.{plain_trees_tell}
use Rattle.bl_ctree_laws_plain.proofs.plain_trees_tell.Goals as goal

pub returns : goal.returns
returns c = plain_trees_tell
