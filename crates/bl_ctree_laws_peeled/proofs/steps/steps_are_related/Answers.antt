use Rattle.bl_ctree_laws_peeled.proofs.Stepping.{steps_are_related}
use Rattle.bl_ctree_laws_peeled.proofs.steps.steps_are_related.Goals as goal

pub returns : goal.returns
returns c = steps_are_related
