use Rattle.bl_ctree_laws_traces.proofs.OnProgress.Beginning.{bodies_fit_graph}
use Rattle.bl_ctree_laws_traces.proofs.progress.bodies_fit_graph.Goals as goal

pub returns : goal.returns
returns c = bodies_fit_graph
