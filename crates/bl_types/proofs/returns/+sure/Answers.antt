use Rattle.std.proofs.Common.{map}
use Rattle.bl_types.specs.Returns.{surely_returns}
use Rattle.bl_types.proofs.LastLemmas.{last_or_is}
use Rattle.bl_types.proofs.returns.+sure.Goals as goal

pub block_returns-loop-s-init : goal.block_returns-loop-s-init
block_returns-loop-s-init t c = last_or_is (map surely_returns c.args.body.now)
