use Rattle.std.proofs.Common.{ap}
use Rattle.bl_ctext_semantics.specs.inner.Maps.{text_at}
use Rattle.bl_ctext_semantics.specs.Saturated.{saturated}
use Rattle.bl_ctext_semantics.specs.Sizes.{size_of_param}
use Rattle.bl_ctext_semantics.proofs.SizeLemmas.{sum-done, sum-next}
use Rattle.bl_ctext_semantics.proofs.check.chains.params_size.Goals as goal

pub loop-param-preserved : goal.loop-param-preserved
loop-param-preserved c =
    sum-next (size_of_param (text_at c.args.sizes.now)) c.args.params.now c.loop-param.param-index c.param-item.result c.loop-param.size c.param_size.result
    c.saturating_add-size.result _ c.loop-param-test.true c.param-item.is (ap saturated c.param_size.ensures) c.saturating_add-size.ensures
    c.loop-param.invariant

pub returns : goal.returns
returns c =
    sum-done (size_of_param (text_at c.args.sizes.now)) c.args.params.now c.loop-param.param-index c.loop-param.size _ c.loop-param-test.false
    c.loop-param.invariant
