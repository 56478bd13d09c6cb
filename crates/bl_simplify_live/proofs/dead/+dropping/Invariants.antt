use Rattle.std.proofs.Common.{◌+◌, ◌*◌, take}
use Rattle.bl_ctext_semantics.specs.inner.Maps.{text_at}
use Rattle.bl_simplify_live.specs.Reads.{LivesAs}
use Rattle.bl_simplify_live.proofs.dead.+dropping.Given as goal

abbrev pub decreases-live_block : goal.decreases-live_block
decreases-live_block l = 3 * l.fuel

abbrev pub decreases-live_if : goal.decreases-live_if
decreases-live_if l = 3 * l.fuel + 1

abbrev pub decreases-live_loop : goal.decreases-live_loop
decreases-live_loop l = 3 * l.fuel + 1

abbrev pub decreases-live_stmt : goal.decreases-live_stmt
decreases-live_stmt l = 3 * l.fuel + 2

abbrev pub invariant-live_block-loop-stmt : goal.invariant-live_block-loop-stmt
invariant-live_block-loop-stmt l = LivesAs (text_at l.read) (take l.stmt-index l.block) l.new
