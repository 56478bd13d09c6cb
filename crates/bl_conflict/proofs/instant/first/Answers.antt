use Rattle.bl_tree.proofs.Basics.{drop_next}
use Rattle.bl_conflict.proofs.FirstLemmas.{best-next}
use Rattle.bl_conflict.specs.inner.Failures.{loops_of, of_loop}
use Rattle.bl_conflict.proofs.instant.first.Goals as goal

pub loop-unit-preserved : goal.loop-unit-preserved
loop-unit-preserved c =
    rw c.judge-best.ensures (best-next of_loop loops_of _ _ c.unit-item.result c.loop-unit.best _
    (drop_next c.args.units.now c.loop-unit.unit-index c.unit-item.result c.loop-unit-test.true c.unit-item.is) c.loop-unit.invariant)
