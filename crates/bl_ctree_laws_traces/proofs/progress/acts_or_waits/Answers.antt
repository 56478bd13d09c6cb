use Rattle.bl_ctree_laws_traces.proofs.OnProgress.Waiting.{acts_or_waits}
use Rattle.bl_ctree_laws_traces.proofs.progress.acts_or_waits.Goals as goal

pub returns : goal.returns
returns c = acts_or_waits c.instants_pass.ensures c.writers_are_reached.ensures c.surfaces_write_soon.ensures
