use Rattle.bl_ctree_laws_peeled.proofs.Running.{unrolled_is_never_stuck, unrolled_means}
use Rattle.bl_ctree_laws_peeled.proofs.runs.unrolled_programs_run_alike.Goals as goal

pub returns : goal.returns
returns c =
    let stay = c.trees_stay_left.ensures in
    let lists = c.lists_of_steps.ensures in
    let steps = c.steps_are_plain.ensures in
    record {
      means = unrolled_means stay.steps stay.whole stay.reached stay.inside lists.follow c.answers_are_plain.ensures c.statements_are_plain.ensures
          steps.sound steps.complete c.reached_trees_are_armed.ensures c.waking_is_plain.ensures;
      stuck = unrolled_is_never_stuck stay.steps stay.whole stay.reached stay.inside lists.follow c.answers_are_plain.ensures
          c.statements_are_plain.ensures steps.sound steps.complete c.reached_trees_are_armed.ensures c.waking_is_plain.ensures;
    }
