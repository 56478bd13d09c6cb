use Rattle.bl_graph.proofs.Staying.{stays_within}
use Rattle.bl_graph.proofs.graphs_stay_within.Goals as goal

pub returns : goal.returns
returns c = stays_within
