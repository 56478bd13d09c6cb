-- One part more is joined.
use Rattle.bl_link.proofs.Joining.{joins_next}
use Rattle.bl_link.proofs.whole.join.Goals as goal

pub loop-k-preserved : goal.loop-k-preserved
loop-k-preserved c =
    joins_next c.args.parts.now c.loop-k.k c.index-parts-k.result c.loop-k.joined c.add.new.joined c.loop-k-test.true c.index-parts-k.is
    c.loop-k.invariant c.in_ok-add.ensures.part c.in_ok-add.ensures.added c.in_ok-add.ensures.grown
