use Rattle.bl_tree.proofs.Basics.{drop_next}
use Rattle.bl_names_scopes.specs.Marks.{field_type_marks}
use Rattle.bl_names_scopes.proofs.WalkLemmas.{judged-next}
use Rattle.bl_names_scopes.proofs.item.field_types.Goals as goal

pub loop-field-preserved : goal.loop-field-preserved
loop-field-preserved c =
    rw c.ty.ensures
    (judged-next field_type_marks _ _ c.field-item.result c.loop-field.judge _
    (drop_next c.args.all.now c.loop-field.field-index c.field-item.result c.loop-field-test.true c.field-item.is) c.loop-field.invariant)
