use Rattle.bl_ctree_laws_traces.proofs.OnProgress.Waking.{waking_keeps_fits_graph}
use Rattle.bl_ctree_laws_traces.proofs.progress.waking_keeps_fits_graph.Goals as goal

pub returns : goal.returns
returns c = waking_keeps_fits_graph c.instants_pass.ensures
