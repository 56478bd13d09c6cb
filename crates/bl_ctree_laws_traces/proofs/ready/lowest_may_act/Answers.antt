use Rattle.bl_ctree_laws_traces.proofs.OnReady.Lowering.{lowest_may_act}
use Rattle.bl_ctree_laws_traces.proofs.ready.lowest_may_act.Goals as goal

pub returns : goal.returns
returns c = lowest_may_act c.acts_or_waits.ensures c.writers_touch_on_the_way.ensures
