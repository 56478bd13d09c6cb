use Rattle.bl_graph.proofs.Passing.{instants_pass}
use Rattle.bl_graph.proofs.instants_pass.Goals as goal

pub returns : goal.returns
returns c = instants_pass
