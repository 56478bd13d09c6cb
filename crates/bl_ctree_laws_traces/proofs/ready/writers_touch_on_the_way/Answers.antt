use Rattle.bl_ctree_laws_traces.proofs.OnReady.Touching.{writers_touch_on_the_way}
use Rattle.bl_ctree_laws_traces.proofs.ready.writers_touch_on_the_way.Goals as goal

pub returns : goal.returns
returns c = writers_touch_on_the_way c.deeds_stay_inside.ensures c.deeds_read_at_nodes.ensures c.instances_nest.ensures c.homes_are_apart.ensures
