use Rattle.std.proofs.Common.{arith}
use Rattle.std.proofs.lemmas.Grind.{common_steps}
use Rattle.bl_emit_blocks.proofs.Turns.{all_are}
use Rattle.bl_emit_blocks.proofs.merging.add_blocks.Goals as goal

pub returns : goal.returns
returns c = grind (arith, common_steps, all_are)
