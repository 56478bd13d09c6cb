use Rattle.bl_simplify_walk.proofs.OnBlocks.{in_turn_more}
use Rattle.bl_simplify_walk.proofs.made.copies.Goals as goal

pub loop-following-preserved : goal.loop-following-preserved
loop-following-preserved c =
    in_turn_more (λ b. b.now) c.args.rest.now c.loop-following.following-index c.following-item.result c.loop-following.made c.in_ok-made.made
    c.loop-following-test.true c.following-item.is c.loop-following.invariant c.in_ok-made.ensures
