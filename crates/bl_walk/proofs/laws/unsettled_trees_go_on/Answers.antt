use Rattle.bl_walk.proofs.Walking.{unsettled_on}
use Rattle.bl_walk.proofs.laws.unsettled_trees_go_on.Goals as goal

pub returns : goal.returns
returns c = unsettled_on c.points_are_steps.ensures.still
