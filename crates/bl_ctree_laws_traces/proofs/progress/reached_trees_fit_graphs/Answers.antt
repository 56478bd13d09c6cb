use Rattle.bl_ctree_laws_traces.proofs.OnProgress.Reaching.{reached_could, reached_inside_is_live, reached_is_live}
use Rattle.bl_ctree_laws_traces.proofs.progress.reached_trees_fit_graphs.Goals as goal

pub returns : goal.returns
returns c =
    let stay = c.trees_stay_left.ensures in
    let plain = c.statements_are_plain.ensures in
    let answers = c.answers_are_plain.ensures in
    let waking = c.waking_is_plain.ensures in
    let steps = c.steps_are_plain.ensures.sound in
    let pass = c.instants_pass.ensures in
    let could = c.acting_is_open.ensures.could in
    let shrink = c.steps_shrink.ensures.ends in
    record {
      trees = reached_is_live stay.steps stay.whole stay.reached plain answers waking steps pass could shrink;
      inside = reached_inside_is_live stay.steps stay.whole stay.reached plain answers waking steps pass could shrink;
      could = reached_could stay.steps stay.whole stay.reached plain answers waking steps pass could shrink;
    }
