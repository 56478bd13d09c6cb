use Rattle.std.proofs.Common.{◌≡◌, ap, rules, sym, ◌∙◌}
use Rattle.std.specs.Prelude.{is_some}
use Rattle.bl_tree.specs.declared.c.CPlace.{out-CPlace}
use Rattle.bl_ctext_places.specs.Lists.{path_of}
use Rattle.bl_ctext_semantics.specs.inner.Maps.{text_at}
use Rattle.bl_simplify_live.proofs.Among.{has_done, has_next, name_is}
use Rattle.bl_simplify_live.proofs.reads.has_all.Goals as goal

pub loop-place-preserved : goal.loop-place-preserved
loop-place-preserved c =
    let place = c.place-item.result.now in
    let named : (out-CPlace place).name ≡ c.deref.result.now = search rules in
    has_next (text_at c.args.names.now) (λ p. path_of p.now) c.args.places.now c.loop-place.place-index c.place-item.result c.loop-place.all c.has-all.result
    c.loop-place-test.true c.place-item.is (ap (λ n. is_some (text_at c.args.names.now n)) (name_is place ∙ named) ∙ sym c.has-all.ensures) c.loop-place.invariant

pub returns : goal.returns
returns c =
    has_done (text_at c.args.names.now) (λ p. path_of p.now) c.args.places.now c.loop-place.place-index c.loop-place.all c.loop-place-test.false
    c.loop-place.invariant
