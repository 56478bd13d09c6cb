use Rattle.bl_ctree_laws_traces.proofs.OnProgress.Reading.{deeds_read_at_nodes}
use Rattle.bl_ctree_laws_traces.proofs.progress.deeds_read_at_nodes.Goals as goal

pub returns : goal.returns
returns c = deeds_read_at_nodes
