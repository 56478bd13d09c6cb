use Rattle.bl_ctree_laws_traces.proofs.OnBounded.Bounding.{ticks_have_passes}
use Rattle.bl_ctree_laws_traces.proofs.bounded.ticks_have_passes.Goals as goal

pub returns : goal.returns
returns c =
    ticks_have_passes c.trees_stay_left.ensures.reached c.statements_are_plain.ensures c.waking_is_plain.ensures
    c.reached_trees_are_residual.ensures.inside c.bodies_stay_residual.ensures.steps c.acting_is_open.ensures.could c.steps_keep_fits_graph.ensures
    c.accepted_trees_fit_graphs.ensures c.accepted_programs_are_orderly.ensures c.programs_are_callable.ensures
    c.instances_have_callers.ensures.callers c.accepted_programs_run_apart.ensures c.graphs_stay_within.ensures
