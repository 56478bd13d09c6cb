use Rattle.bl_ctree_laws_examples.proofs.OnTrees.Commuting.{swapped}
use Rattle.bl_ctree_laws_examples.proofs.trees.a_reset_and_an_await_commute.Goals as goal

pub returns : goal.returns
returns c = swapped
