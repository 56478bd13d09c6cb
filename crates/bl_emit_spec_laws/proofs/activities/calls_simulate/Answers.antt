use Rattle.bl_emit_spec_laws.proofs.OnActivities.Passing.{calls_simulate}
use Rattle.bl_emit_spec_laws.proofs.activities.calls_simulate.Goals as goal

pub returns : goal.returns
returns c = calls_simulate c.instances_nest.ensures c.calls_keep.ensures
