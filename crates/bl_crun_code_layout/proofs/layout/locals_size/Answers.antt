use Rattle.std.proofs.Common.{◌+◌, ap, drop, ◌∙◌}
use Rattle.bl_tree.proofs.Basics.{drop_next}
use Rattle.bl_ctext_semantics.specs.Sizes.{size_of_type}
use Rattle.bl_ctext_semantics_laws.specs.Layout.{capped}
use Rattle.bl_crun_code_layout.specs.Views.{sizes_in}
use Rattle.bl_crun_code_layout.proofs.Layouts.{capped-small, sum-all, sum-capped}
use Rattle.bl_crun_code_layout.proofs.layout.locals_size.Goals as goal

pub loop-local-preserved : goal.loop-local-preserved
loop-local-preserved c = (
  capped-small c.behind-size.result _ c.behind-size.ensures,
  sum-capped (λ l. size_of_type (sizes_in c.args.sizes.now) l.ty) c.loop-local.size c.behind-size.result _ c.local-item.result
      (drop c.loop-local.local-index c.args.locals.now) (drop (c.loop-local.local-index + 1) c.args.locals.now)
      (drop_next c.args.locals.now c.loop-local.local-index c.local-item.result c.loop-local-test.true c.local-item.is)
      (c.behind-size.ensures ∙ ap (λ n. capped (c.loop-local.size + n)) c.type_size.ensures) c.loop-local.invariant.1,
)

pub returns : goal.returns
returns c = sum-all (λ l. size_of_type (sizes_in c.args.sizes.now) l.ty) c.loop-local.size _ c.args.locals.now c.loop-local.local-index c.loop-local-test.false
    c.loop-local.invariant.0 c.loop-local.invariant.1
