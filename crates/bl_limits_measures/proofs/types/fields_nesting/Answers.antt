use Rattle.bl_limits_measures.specs.Types.{nesting_by}
use Rattle.bl_limits_measures.proofs.Numbers.{most_more}
use Rattle.bl_limits_measures.proofs.types.fields_nesting.Goals as goal

pub loop-field-preserved : goal.loop-field-preserved
loop-field-preserved c =
    most_more (λ field. nesting_by c.args.known.now field.ty) c.deref-field-items.result.now c.loop-field.field-index
    c.field-item.result c.loop-field.most c.nesting_by.result c.max-most.result
    c.loop-field-test.true c.field-item.is c.nesting_by.ensures c.max-most.ensures c.loop-field.invariant
