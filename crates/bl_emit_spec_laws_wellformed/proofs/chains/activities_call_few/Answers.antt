use Rattle.bl_emit_spec_laws_wellformed.proofs.OnChains.Chains.{call_few}
use Rattle.bl_emit_spec_laws_wellformed.proofs.chains.activities_call_few.Goals as goal

pub returns : goal.returns
returns c = call_few c.trees_stay_placed.ensures.nodes
