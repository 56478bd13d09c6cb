use Rattle.bl_ctree_laws_traces.proofs.OnBounded.Bounding.{accepted_is_bounded}
use Rattle.bl_ctree_laws_traces.proofs.bounded.accepted_is_bounded.Goals as goal

pub returns : goal.returns
returns c =
    accepted_is_bounded c.trees_stay_left.ensures.reached c.trees_stay_left.ensures.whole c.lists_are_plain.ensures.lists
    c.steps_are_six_each.ensures c.tick_steps_are_few.ensures
