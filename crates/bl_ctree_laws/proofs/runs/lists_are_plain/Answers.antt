use Rattle.bl_ctree_laws.proofs.Running.{lists_are_plain, still_is_plain}
use Rattle.bl_ctree_laws.proofs.runs.lists_are_plain.Goals as goal

pub returns : goal.returns
returns c =
    let stay = c.trees_stay_left.ensures in record { lists = lists_are_plain stay.steps stay.whole stay.reached; still = still_is_plain }
