use Rattle.bl_tree.proofs.Basics.{drop_next}
use Rattle.bl_conflict.proofs.FirstLemmas.{first-next}
use Rattle.bl_conflict.specs.inner.Failures.{clashes_with}
use Rattle.bl_conflict.proofs.conflict.clash_all.Goals as goal

pub loop-second-preserved : goal.loop-second-preserved
loop-second-preserved c =
    rw c.clash_with-best.ensures
    (first-next (clashes_with c.args.vars.now c.args.earlier.now) _ _ c.second-item.result c.loop-second.best _
    (drop_next c.args.writes.now c.loop-second.second-index c.second-item.result c.loop-second-test.true c.second-item.is) c.loop-second.invariant)
