use Rattle.bl_ctree_laws_traces.proofs.OnReady.Never.{unsettled_may}
use Rattle.bl_ctree_laws_traces.proofs.ready.unsettled_may.Goals as goal

pub returns : goal.returns
returns c = unsettled_may c.lowest_may_act.ensures c.unsettled_could.ensures
