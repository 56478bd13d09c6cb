use Rattle.bl_graph_nodes.proofs.Equations.{plain_statements}
use Rattle.bl_graph_nodes.proofs.plain_statements.Goals as goal

pub returns : goal.returns
returns c = plain_statements
