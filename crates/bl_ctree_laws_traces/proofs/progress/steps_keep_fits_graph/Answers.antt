use Rattle.bl_ctree_laws_traces.proofs.OnProgress.Keeping.{steps_keep_fits_graph}
use Rattle.bl_ctree_laws_traces.proofs.progress.steps_keep_fits_graph.Goals as goal

pub returns : goal.returns
returns c = steps_keep_fits_graph c.instants_pass.ensures c.steps_shrink.ensures.ends
