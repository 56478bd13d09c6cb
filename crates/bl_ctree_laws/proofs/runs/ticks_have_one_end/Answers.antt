use Rattle.bl_ctree_laws.proofs.Ticking.{ticks_have_one_end}
use Rattle.bl_ctree_laws.proofs.runs.ticks_have_one_end.Goals as goal

pub returns : goal.returns
returns c =
    let stay = c.trees_stay_left.ensures in ticks_have_one_end stay.steps stay.whole stay.reached stay.inside
