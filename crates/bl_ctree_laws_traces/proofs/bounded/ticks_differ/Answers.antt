use Rattle.bl_ctree_laws_traces.proofs.OnBounded.Differing.{ticks_differ}
use Rattle.bl_ctree_laws_traces.proofs.bounded.ticks_differ.Goals as goal

pub returns : goal.returns
returns c = ticks_differ c.instants_pass.ensures c.branches_part.ensures c.acting_is_open.ensures.could c.steps_shrink.ensures.ends c.steps_keep_fits_graph.ensures
