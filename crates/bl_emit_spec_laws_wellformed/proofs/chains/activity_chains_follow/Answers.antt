use Rattle.bl_emit_spec_laws_wellformed.proofs.OnChains.Chains.{follow}
use Rattle.bl_emit_spec_laws_wellformed.proofs.chains.activity_chains_follow.Goals as goal

pub returns : goal.returns
returns c = follow c.activities_call_few.ensures
