use Rattle.bl_graph.proofs.Writing.{writers_are_reached}
use Rattle.bl_graph.proofs.writers_are_reached.Goals as goal

pub returns : goal.returns
returns c = writers_are_reached
