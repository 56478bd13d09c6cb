use Rattle.bl_graph_nodes.proofs.Labels.{labels_are_below, positions_part}
use Rattle.bl_graph_nodes.proofs.labels_tell_apart.Goals as goal

pub returns : goal.returns
returns c = record { below = labels_are_below; part = positions_part }
