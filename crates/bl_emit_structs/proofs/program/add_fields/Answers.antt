use Rattle.bl_tree.proofs.Basics.{drop_next}
use Rattle.bl_emit_structs.specs.Structs.{arrays_of}
use Rattle.bl_emit_structs.proofs.Steps.{after-next}
use Rattle.bl_emit_structs.proofs.program.add_fields.Goals as goal

pub loop-field-preserved : goal.loop-field-preserved
loop-field-preserved c =
    rw c.in_ok-add_arrays.ensures
    (after-next (λ field. arrays_of c.args.structs.now field.ty) _ _ c.field-item.result c.loop-field.collected _
    (drop_next c.args.fields.now c.loop-field.field-index c.field-item.result c.loop-field-test.true c.field-item.is) c.loop-field.invariant)
