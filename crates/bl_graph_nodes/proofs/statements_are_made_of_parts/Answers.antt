use Rattle.bl_graph_nodes.proofs.Equations.{made_of_parts}
use Rattle.bl_graph_nodes.proofs.statements_are_made_of_parts.Goals as goal

pub returns : goal.returns
returns c = made_of_parts
