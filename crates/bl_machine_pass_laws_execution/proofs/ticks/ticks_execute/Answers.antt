use Rattle.bl_machine_pass_laws_execution.proofs.OnTicks.{ticks_execute}
use Rattle.bl_machine_pass_laws_execution.proofs.ticks.ticks_execute.Goals as goal

pub returns : goal.returns
returns c =
    ticks_execute c.accepted_programs_run_apart.ensures c.bodies_fit_graph.ensures c.programs_are_callable.ensures c.waking_keeps_fits_graph.ensures
    c.passes_execute.ensures c.frames_nest.ensures c.all_turns_perform.ensures c.passes_begin.ensures c.trees_stand.ensures
    c.own_is_seen.ensures c.trees_ask.ensures c.bodies_ask.ensures c.first_counter_tells.ensures
