use Rattle.bl_graph.proofs.Enclosing.{marks_tell}
use Rattle.bl_graph.proofs.marks_tell.Goals as goal

pub returns : goal.returns
returns c = marks_tell c.nodes_differ.ensures
