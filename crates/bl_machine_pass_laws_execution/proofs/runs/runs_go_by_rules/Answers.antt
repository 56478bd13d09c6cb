use Rattle.bl_machine_pass_laws_execution.proofs.OnRuns.{runs_go_by_rules}
use Rattle.bl_machine_pass_laws_execution.proofs.runs.runs_go_by_rules.Goals as goal

pub returns : goal.returns
returns c =
    runs_go_by_rules c.statements_are_plain.ensures c.bodies_fit_graph.ensures c.programs_are_callable.ensures c.waking_keeps_fits_graph.ensures
    c.instances_have_passes.ensures c.runs_of_passes_are_meant.ensures c.stores_are_fresh.ensures c.machines_give_contexts.ensures
    c.ticks_execute.ensures
