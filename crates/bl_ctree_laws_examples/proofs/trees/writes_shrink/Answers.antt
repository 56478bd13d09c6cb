use Rattle.bl_ctree_laws_examples.proofs.OnTrees.Waiting.{x_may_be_written, x_stays}
use Rattle.bl_ctree_laws_examples.proofs.trees.writes_shrink.Goals as goal

pub returns-clause-before : goal.returns-clause-before
returns-clause-before c = x_may_be_written

pub returns-clause-after : goal.returns-clause-after
returns-clause-after c = x_stays
