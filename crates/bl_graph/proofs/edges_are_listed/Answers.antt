use Rattle.bl_graph.proofs.Listing.{edges_are_listed}
use Rattle.bl_graph.proofs.edges_are_listed.Goals as goal

pub returns : goal.returns
returns c = edges_are_listed c.nodes_differ.ensures
