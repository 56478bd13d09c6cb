use Rattle.bl_tree.proofs.Basics.{drop_next}
use Rattle.bl_emit_structs.specs.Structs.{arrays_of}
use Rattle.bl_emit_structs.proofs.Steps.{after-next}
use Rattle.bl_emit_structs.proofs.program.add_variables.Goals as goal

pub loop-var-preserved : goal.loop-var-preserved
loop-var-preserved c =
    rw c.in_ok-add_arrays.ensures
    (after-next (λ var. arrays_of c.args.structs.now var.ty) _ _ c.var-item.result c.loop-var.collected _
    (drop_next c.args.vars.now c.loop-var.var-index c.var-item.result c.loop-var-test.true c.var-item.is) c.loop-var.invariant)
