use Rattle.bl_ctree_laws_traces.proofs.OnProgress.Acting.{nodes_are_in_part}
use Rattle.bl_ctree_laws_traces.proofs.progress.nodes_are_in_part.Goals as goal

pub returns : goal.returns
returns c = nodes_are_in_part
