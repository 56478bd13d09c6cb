use Rattle.bl_emit_blocks.proofs.Same.{blocks_alike}
use Rattle.bl_emit_blocks.proofs.laws.blocks_alike.Goals as goal

pub returns : goal.returns
returns c = blocks_alike
