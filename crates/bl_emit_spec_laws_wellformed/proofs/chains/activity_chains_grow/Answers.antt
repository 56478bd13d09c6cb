use Rattle.bl_emit_spec_laws_wellformed.proofs.OnChains.Growing.{grow}
use Rattle.bl_emit_spec_laws_wellformed.proofs.chains.activity_chains_grow.Goals as goal

pub returns : goal.returns
returns c = grow c.activity_chains_follow.ensures
