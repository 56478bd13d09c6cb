use Rattle.bl_ctree_laws_traces.proofs.OnTraces.Extending.{bounded_go_on}
use Rattle.bl_ctree_laws_traces.proofs.traces.bounded_lists_go_on.Goals as goal

pub returns : goal.returns
returns c =
    bounded_go_on c.points_are_steps.ensures.still c.points_are_steps.ensures.sound c.lists_of_steps.ensures.acting c.lists_of_steps.ensures.follow
