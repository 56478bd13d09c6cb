use Rattle.bl_emit_blocks_laws.proofs.Numbering.{blocks_are_numbered}
use Rattle.bl_emit_blocks_laws.proofs.blocks_are_numbered.Goals as goal

pub returns : goal.returns
returns c = blocks_are_numbered
