use Rattle.bl_tree.proofs.Basics.{drop_next}
use Rattle.bl_conflict.proofs.FirstLemmas.{first-next}
use Rattle.bl_conflict.specs.inner.Failures.{clashes_of_unit}
use Rattle.bl_conflict.proofs.conflict.first.Goals as goal

pub loop-unit-preserved : goal.loop-unit-preserved
loop-unit-preserved c =
    rw c.in_ok-best.ensures (first-next clashes_of_unit _ _ c.unit-item.result c.loop-unit.best _
    (drop_next c.args.units.now c.loop-unit.unit-index c.unit-item.result c.loop-unit-test.true c.unit-item.is) c.loop-unit.invariant)
