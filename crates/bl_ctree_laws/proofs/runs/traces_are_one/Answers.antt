use Rattle.bl_ctree_laws.proofs.Ticking.{traces_are_one}
use Rattle.bl_ctree_laws.proofs.runs.traces_are_one.Goals as goal

pub returns : goal.returns
returns c =
    let stay = c.trees_stay_left.ensures in traces_are_one stay.steps stay.whole stay.reached stay.inside
