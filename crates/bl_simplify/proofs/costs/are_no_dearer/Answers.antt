use Rattle.bl_simplify.proofs.OnCosts.{none_next}
use Rattle.bl_simplify.proofs.costs.are_no_dearer.Goals as goal

pub loop-k-preserved : goal.loop-k-preserved
loop-k-preserved c =
    none_next c.args.new.now c.args.old.now c.loop-k.k _ c.loop-k.kept c.is_no_dearer-kept.result c.loop-k-test.true c.if-new-old.false c.loop-k.invariant
    c.is_no_dearer-kept.ensures
