use Rattle.bl_machine_pass_laws_counters.proofs.Same.{numbers_tell_trees}
use Rattle.bl_machine_pass_laws_counters.proofs.numbers_tell_trees.Goals as goal

pub returns : goal.returns
returns c =
    numbers_tell_trees c.trees_stay_left.ensures.reached c.trees_stay_left.ensures.whole c.waking_is_plain.ensures c.plain_trees_tell.ensures
    c.statements_are_plain.ensures c.answers_are_plain.ensures c.ticks_have_one_end.ensures c.accepted_programs_are_orderly.ensures
    c.instances_nest.ensures c.accepted_programs_are_independent.ensures c.accepted_trees_fit_graphs.ensures c.ticks_are_passes.ensures
    c.machines_have_one_trace.ensures c.nodes_have_keys.ensures c.trees_stay_placed.ensures c.stays_residual.ensures c.numbers_tell.ensures
    c.machines_give_contexts.ensures
