use Rattle.bl_ctree.proofs.Forgetting.{waking_forgets}
use Rattle.bl_ctree.proofs.laws.waking_forgets.Goals as goal

pub returns : goal.returns
returns c = waking_forgets
