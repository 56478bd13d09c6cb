use Rattle.bl_limits_measures.specs.Types.{size_by}
use Rattle.bl_limits_measures.proofs.Numbers.{sum_more}
use Rattle.bl_limits_measures.proofs.types.fields_size.Goals as goal

pub loop-field-preserved : goal.loop-field-preserved
loop-field-preserved c =
    sum_more (λ field. size_by c.args.known.now field.ty) c.deref-field-items.result.now c.loop-field.field-index
    c.field-item.result c.loop-field.size c.size_by.result c.saturating_add-size.result
    c.loop-field-test.true c.field-item.is c.size_by.ensures c.saturating_add-size.ensures c.loop-field.invariant
