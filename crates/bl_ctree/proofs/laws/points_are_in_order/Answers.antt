use Rattle.bl_ctree.proofs.Ordering.{points_in_order}
use Rattle.bl_ctree.proofs.laws.points_are_in_order.Goals as goal

pub returns : goal.returns
returns c = points_in_order
