use Rattle.bl_machine_pass_laws_execution.proofs.OnPerforms.Performing.{all_turns_perform}
use Rattle.bl_machine_pass_laws_execution.proofs.performs.all_turns_perform.Goals as goal

pub returns : goal.returns
returns c =
    all_turns_perform c.accepted_programs_run_apart.ensures c.instances_nest.ensures c.bodies_fit_graph.ensures c.programs_are_callable.ensures
    c.steps_keep_fits_graph.ensures c.turns_are_walks.ensures c.turns_wait.ensures c.waking_keeps_numbers.ensures c.passes_execute.ensures
    c.points_are_of_nodes.ensures c.frames_nest.ensures c.passes_begin.ensures c.trees_stand.ensures
    c.first_counter_tells.ensures c.deeds_are_seen.ensures c.own_is_seen.ensures c.trees_ask.ensures c.bodies_ask.ensures
