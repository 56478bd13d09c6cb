use Rattle.bl_emit_spec_laws_wellformed.proofs.OnChains.Growing.{short}
use Rattle.bl_emit_spec_laws_wellformed.proofs.chains.activity_chains_short.Goals as goal

pub returns : goal.returns
returns c = short c.activity_chains_follow.ensures
