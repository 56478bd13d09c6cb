use Rattle.bl_ctree_laws.proofs.Diamond.{steps_commute}
use Rattle.bl_ctree_laws.proofs.commuting.steps_commute.Goals as goal

pub returns : goal.returns
returns c = steps_commute
