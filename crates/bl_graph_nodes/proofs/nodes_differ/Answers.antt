use Rattle.bl_graph_nodes.proofs.Differing.{nodes_differ}
use Rattle.bl_graph_nodes.proofs.nodes_differ.Goals as goal

pub returns : goal.returns
returns c = nodes_differ
