use Rattle.std.proofs.Common.{ap}
use Rattle.bl_ctext_semantics.specs.inner.Maps.{text_at}
use Rattle.bl_ctext_semantics.specs.Saturated.{saturated}
use Rattle.bl_ctext_semantics.specs.Sizes.{size_of_type}
use Rattle.bl_ctext_semantics.proofs.SizeLemmas.{sum-done, sum-next}
use Rattle.bl_ctext_semantics.proofs.check.chains.locals_size.Goals as goal

pub loop-local-preserved : goal.loop-local-preserved
loop-local-preserved c =
    sum-next (λ v. size_of_type (text_at c.args.sizes.now) v.ty) c.args.locals.now c.loop-local.local-index c.local-item.result c.loop-local.size
    c.type_size.result
    c.saturating_add-size.result _ c.loop-local-test.true c.local-item.is (ap saturated c.type_size.ensures) c.saturating_add-size.ensures
    c.loop-local.invariant

pub returns : goal.returns
returns c =
    sum-done (λ v. size_of_type (text_at c.args.sizes.now) v.ty) c.args.locals.now c.loop-local.local-index c.loop-local.size _ c.loop-local-test.false
    c.loop-local.invariant
