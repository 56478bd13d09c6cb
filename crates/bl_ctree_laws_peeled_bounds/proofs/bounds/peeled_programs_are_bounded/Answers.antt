use Rattle.bl_ctree_laws_peeled_bounds.proofs.Bounding.{peeled_is_bounded}
use Rattle.bl_ctree_laws_peeled_bounds.proofs.bounds.peeled_programs_are_bounded.Goals as goal

pub returns : goal.returns
returns c =
    let stay = c.trees_stay_left.ensures in
    let steps = c.steps_are_plain.ensures in
    peeled_is_bounded (record {
      pass = c.instants_pass.ensures;
      part = c.branches_part.ensures;
      could = c.acting_is_open.ensures.could;
      shrink = c.steps_shrink.ensures.ends;
      stays = c.steps_keep_fits_graph.ensures;
      left_kept = c.bodies_stay_residual.ensures.steps;
      left_inside = c.reached_trees_are_residual.ensures.inside;
      lists = c.lists_are_plain.ensures.lists;
      kept = stay.steps;
      begun = stay.whole;
      between = stay.reached;
      inside = stay.inside;
      follow = c.lists_of_steps.ensures.follow;
      answers = c.answers_are_plain.ensures;
      statements = c.statements_are_plain.ensures;
      sound = steps.sound;
      complete = steps.complete;
      armed = c.reached_trees_are_armed.ensures;
      waking = c.waking_is_plain.ensures;
      fit = c.accepted_trees_fit_graphs.ensures;
      orderly = c.accepted_programs_are_orderly.ensures;
      callable = c.programs_are_callable.ensures;
      callers = c.instances_have_callers.ensures.callers;
      have = c.ticks_have_passes.ensures;
      few = c.tick_steps_are_few.ensures;
      six = c.steps_are_six_each.ensures;
    })
