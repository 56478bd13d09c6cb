use Rattle.bl_machine_laws.proofs.OnTraces.Runs.{runs_are_meant}
use Rattle.bl_machine_laws.proofs.traces.runs_of_passes_are_meant.Goals as goal

pub returns : goal.returns
returns c =
    runs_are_meant c.reached_lowest_may_act.ensures c.steps_are_plain.ensures.complete c.steps_are_plain.ensures.sound
    c.acting_is_open.ensures.could c.acting_is_open.ensures.unsettled c.answers_are_plain.ensures c.trees_stay_left.ensures.inside
    c.trees_stay_left.ensures.reached c.reached_trees_are_armed.ensures c.lists_of_steps.ensures.follow c.waking_is_plain.ensures
    c.accepted_programs_are_orderly.ensures c.ticks_are_passes.ensures c.accepted_programs_have_at_most_one_trace.ensures
