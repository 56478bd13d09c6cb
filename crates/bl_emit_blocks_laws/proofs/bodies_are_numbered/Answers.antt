use Rattle.bl_emit_blocks_laws.proofs.Numbering.{bodies_are_numbered}
use Rattle.bl_emit_blocks_laws.proofs.bodies_are_numbered.Goals as goal

pub returns : goal.returns
returns c = bodies_are_numbered c.blocks_are_numbered.ensures c.rules_are_listed.ensures
