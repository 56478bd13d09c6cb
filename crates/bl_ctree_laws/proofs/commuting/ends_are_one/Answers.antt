use Rattle.bl_ctree_laws.proofs.Ending.{ends_are_one}
use Rattle.bl_ctree_laws.proofs.commuting.ends_are_one.Goals as goal

pub returns : goal.returns
returns c = ends_are_one
