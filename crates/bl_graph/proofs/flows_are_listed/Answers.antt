use Rattle.bl_graph.proofs.Flowing.{flows_are_listed}
use Rattle.bl_graph.proofs.flows_are_listed.Goals as goal

pub returns : goal.returns
returns c = flows_are_listed c.nodes_differ.ensures
