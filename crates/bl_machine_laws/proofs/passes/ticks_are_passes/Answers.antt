use Rattle.bl_machine_laws.proofs.OnPasses.Ticking.{ticks_are_passes}
use Rattle.bl_machine_laws.proofs.passes.ticks_are_passes.Goals as goal

pub returns : goal.returns
returns c =
    ticks_are_passes c.reached_lowest_may_act.ensures c.steps_are_plain.ensures.complete c.steps_are_plain.ensures.sound
    c.acting_is_open.ensures.could c.acting_is_open.ensures.unsettled c.answers_are_plain.ensures c.trees_stay_left.ensures.inside
    c.trees_stay_left.ensures.reached c.reached_trees_are_armed.ensures c.lists_of_steps.ensures.follow c.waking_is_plain.ensures
    c.statements_are_plain.ensures c.nodes_are_in_part.ensures c.unsettled_could.ensures c.accepted_trees_fit_graphs.ensures
    c.programs_are_callable.ensures c.accepted_programs_are_orderly.ensures c.instances_have_passes.ensures
