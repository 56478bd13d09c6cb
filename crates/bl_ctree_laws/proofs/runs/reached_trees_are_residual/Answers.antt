use Rattle.bl_ctree_laws.proofs.Running.{reached_inside_is_left, reached_is_left}
use Rattle.bl_ctree_laws.proofs.runs.reached_trees_are_residual.Goals as goal

pub returns : goal.returns
returns c =
    let stay = c.trees_stay_left.ensures in
    record {
      trees = reached_is_left stay.steps stay.whole stay.reached;
      inside = reached_inside_is_left stay.steps stay.whole stay.reached;
    }
