use Rattle.bl_limits_measures.specs.Types.{size_by}
use Rattle.bl_limits_measures.proofs.Numbers.{sum_more}
use Rattle.bl_limits_measures.proofs.measures.variables_by.Goals as goal

pub loop-var-preserved : goal.loop-var-preserved
loop-var-preserved c =
    sum_more (λ var. size_by c.args.sizes.now var.ty) c.deref-var-items.result.now c.loop-var.var-index c.var-item.result
    c.loop-var.size c.size_by.result c.saturating_add-size.result
    c.loop-var-test.true c.var-item.is c.size_by.ensures c.saturating_add-size.ensures c.loop-var.invariant
