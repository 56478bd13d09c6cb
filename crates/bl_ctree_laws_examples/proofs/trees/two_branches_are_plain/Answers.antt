use Rattle.bl_ctree_laws_examples.proofs.OnTrees.Plainly.{two_way_plain}
use Rattle.bl_ctree_laws_examples.proofs.trees.two_branches_are_plain.Goals as goal

pub returns : goal.returns
returns c = two_way_plain
