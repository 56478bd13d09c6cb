use Rattle.bl_graph.proofs.Parting.{branches_part}
use Rattle.bl_graph.proofs.branches_part.Goals as goal

pub returns : goal.returns
returns c = branches_part c.labels_tell_apart.ensures.below c.labels_tell_apart.ensures.part c.plain_statements.ensures
