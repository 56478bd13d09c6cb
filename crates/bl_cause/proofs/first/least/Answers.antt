use Rattle.std.proofs.Common.{◌+◌, sym, subst}
use Rattle.bl_cause.proofs.FirstLemmas.{Least, least_better, least_same, test_is}
use Rattle.bl_cause.proofs.StepLemmas.{blank}
use Rattle.bl_cause.proofs.first.least.Goals as goal
use Rattle.bl_cause.proofs.first.least.Goals.{then-is_before, else-is_before}

pub loop-k-preserved : goal.loop-k-preserved
loop-k-preserved c =
    elim c.if-is_before.branch [
      | then-is_before w ↦
          subst (Least c.args.nodes.now c.args.edges.now (c.loop-k.k + 1)) (sym w.best-is)
          (least_better c.args.nodes.now c.args.edges.now c.loop-k.k c.loop-k.best blank.edge c.loop-k-test.true
          (test_is _ _ _ _ _ _ c.is_before.ensures c.place_of.ensures c.place_of-in-loop-k.ensures w.if-is_before.true) c.loop-k.invariant)
      | else-is_before w ↦
          subst (Least c.args.nodes.now c.args.edges.now (c.loop-k.k + 1)) (sym w.best-is)
          (least_same c.args.nodes.now c.args.edges.now c.loop-k.k c.loop-k.best blank.edge c.loop-k-test.true
          (test_is _ _ _ _ _ _ c.is_before.ensures c.place_of.ensures c.place_of-in-loop-k.ensures w.if-is_before.false) c.loop-k.invariant)
    ]
