use Rattle.std.proofs.Common.{◌+◌, ap, drop, ◌∙◌}
use Rattle.bl_tree.proofs.Basics.{drop_next}
use Rattle.bl_ctext_semantics.specs.Sizes.{size_of_param}
use Rattle.bl_ctext_semantics_laws.specs.Layout.{capped}
use Rattle.bl_crun_code_layout.specs.Views.{sizes_in}
use Rattle.bl_crun_code_layout.proofs.Layouts.{capped-small, sum-all, sum-capped}
use Rattle.bl_crun_code_layout.proofs.layout.params_size.Goals as goal

pub loop-param-preserved : goal.loop-param-preserved
loop-param-preserved c = (
  capped-small c.behind-size.result _ c.behind-size.ensures,
  sum-capped (size_of_param (sizes_in c.args.sizes.now)) c.loop-param.size c.behind-size.result _ c.param-item.result
      (drop c.loop-param.param-index c.args.params.now) (drop (c.loop-param.param-index + 1) c.args.params.now)
      (drop_next c.args.params.now c.loop-param.param-index c.param-item.result c.loop-param-test.true c.param-item.is)
      (c.behind-size.ensures ∙ ap (λ n. capped (c.loop-param.size + n)) c.param_size.ensures) c.loop-param.invariant.1,
)

pub returns : goal.returns
returns c = sum-all (size_of_param (sizes_in c.args.sizes.now)) c.loop-param.size _ c.args.params.now c.loop-param.param-index c.loop-param-test.false
    c.loop-param.invariant.0 c.loop-param.invariant.1
