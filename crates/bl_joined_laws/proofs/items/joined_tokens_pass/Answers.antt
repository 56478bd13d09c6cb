use Rattle.bl_joined_laws.proofs.Depth.{joined_passes}
use Rattle.bl_joined_laws.proofs.items.joined_tokens_pass.Goals as goal

pub returns : goal.returns
returns c = joined_passes
