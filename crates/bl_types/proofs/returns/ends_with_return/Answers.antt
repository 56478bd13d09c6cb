use Rattle.std.proofs.Common.{map}
use Rattle.bl_types.specs.Returns.{is_return}
use Rattle.bl_types.proofs.LastLemmas.{last_or_is}
use Rattle.bl_types.proofs.returns.ends_with_return.Goals as goal

pub loop-s-init : goal.loop-s-init
loop-s-init c = last_or_is (map is_return c.args.body.now)
