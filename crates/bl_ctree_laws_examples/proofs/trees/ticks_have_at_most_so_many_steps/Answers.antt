use Rattle.bl_ctree_laws_examples.proofs.OnTrees.Expanding.{instances_is, steps_are}
use Rattle.bl_ctree_laws_examples.proofs.trees.ticks_have_at_most_so_many_steps.Goals as goal

pub returns-clause-instances : goal.returns-clause-instances
returns-clause-instances c = instances_is

pub returns-clause-steps : goal.returns-clause-steps
returns-clause-steps c = steps_are
