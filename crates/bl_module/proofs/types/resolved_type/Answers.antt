use Rattle.std.proofs.Common.{◌∙◌, refl}
use Rattle.bl_module.proofs.FaceLemmas.{array-next}
use Rattle.bl_module.proofs.types.resolved_type.Goals as goal

pub loop-k-preserved : goal.loop-k-preserved
loop-k-preserved c =
    array-next c.as_slice-lengths.result.now c.loop-k.k _ 0 c.loop-k.made c.in_ok-new.field-0 _ c.loop-k-test.true c.loop-k.auto.k refl c.in_ok-new.ensures refl
    ∙ c.loop-k.invariant
