use Rattle.std.proofs.Common.{◌∙◌, ◌+◌, ap, drop, sym}
use Rattle.bl_tree.proofs.Basics.{drop_next}
use Rattle.bl_tree.specs.Typing.{is_inhabited}
use Rattle.bl_types.specs.Failures.{noted}
use Rattle.bl_types.specs.Returns.{stray, strays}
use Rattle.bl_types.proofs.NoteLemmas.{next_noted}
use Rattle.bl_types.proofs.StrayLemmas.{is_followed}
use Rattle.bl_types.proofs.returns.strays.Goals as goal

pub loop-k-preserved : goal.loop-k-preserved
loop-k-preserved c =
    let s = c.index-body-k.result in
    let rest = drop (c.loop-k.k + 1) c.args.body.now in
    let step = drop_next c.args.body.now c.loop-k.k s c.loop-k-test.true c.index-body-k.is in
    next_noted c.loop-k.notes c.stray.new.notes _ (stray (is_inhabited rest) s) _ (strays rest) c.stray.ensures
    (ap (λ followed. stray followed s) (is_followed (c.loop-k.k + 1) c.args.body.now))
    (sym (ap (λ l. noted c.loop-k.notes (strays l)) step) ∙ c.loop-k.invariant)
