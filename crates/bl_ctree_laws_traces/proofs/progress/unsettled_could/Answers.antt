use Rattle.bl_ctree_laws_traces.proofs.OnProgress.Acting.{unsettled_could}
use Rattle.bl_ctree_laws_traces.proofs.progress.unsettled_could.Goals as goal

pub returns : goal.returns
returns c = unsettled_could
