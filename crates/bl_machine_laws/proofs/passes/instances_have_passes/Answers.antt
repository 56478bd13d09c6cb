use Rattle.bl_machine_laws.proofs.OnPasses.Passing.{instances_have_passes}
use Rattle.bl_machine_laws.proofs.passes.instances_have_passes.Goals as goal

pub returns : goal.returns
returns c =
    instances_have_passes c.acting_is_open.ensures.unsettled c.steps_shrink.ensures.ends c.turns_are_walks.ensures c.turns_wait.ensures
    c.bodies_fit_graph.ensures c.steps_keep_fits_graph.ensures c.turns_lead_on.ensures c.waits_in_part.ensures
    (λ body. c.graphs_stay_within.ensures body) c.instances_nest.ensures
