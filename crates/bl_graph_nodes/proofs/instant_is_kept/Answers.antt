use Rattle.bl_graph_nodes.proofs.Instants.{blocks_are_instant, instant_is}
use Rattle.bl_graph_nodes.proofs.instant_is_kept.Goals as goal

pub returns : goal.returns
returns c = record { statements = instant_is; blocks = blocks_are_instant }
