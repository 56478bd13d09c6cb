use Rattle.bl_plant_drive.proofs.Telling.{tells-all, tells-step, told-short}
use Rattle.bl_plant_drive.proofs.tell.tell_all.Goals as goal

pub returns-in_err-tell_next : goal.returns-in_err-tell_next
returns-in_err-tell_next g c = λ h row t.
    told-short h c.loop-k.k _ _ _ c.from_residual.result c.from_residual.ensures.1 (c.in_err-tell_next.ensures h row (c.loop-k.invariant h row t))

pub loop-k-preserved : goal.loop-k-preserved
loop-k-preserved g c = λ h row t. tells-step h c.loop-k.k _ _ (c.in_ok-tell_next.ensures h row (c.loop-k.invariant h row t))

pub returns : goal.returns
returns g c = λ h row t. tells-all h c.loop-k.k _ _ c.loop-k-test.false (c.loop-k.invariant h row t)
