use Rattle.std.proofs.Common.{◌<◌, ◌≤◌, length, refl, ap, ◌∙◌, arith}
use Rattle.std.proofs.lemmas.Option.{slice_get_read}
use Rattle.std.specs.Prelude.{slice_set}
use Rattle.bl_ctree_store.specs.Ageing.{as_number}
use Rattle.bl_ctree_store.proofs.AgeLemmas.{made_next, many_set}
use Rattle.bl_ctree_store.proofs.ticks.renumber.Goals as goal

pub loop-k-preserved : goal.loop-k-preserved
loop-k-preserved c =
    let k = c.loop-k.k in
    let others = c.args.others.now in
    let x = c.index-others-k.result in
    let within : k < length others = omega (arith, c.loop-k-test.true, c.loop-k.auto.k-end) in
    let fits : length others ≤ length c.args.values.now.items = omega (arith, c.requires) in record {
      values = c.set_element.ensures ∙ ap (λ vs. slice_set vs k c.as_number.result) c.loop-k.invariant.values
          ∙ made_next as_number others c.args.values.now.items k x c.as_number.result fits
          (slice_get_read others (length others) k x refl within c.index-others-k.is) c.as_number.ensures;
      long = ap length c.set_element.ensures ∙ many_set c.loop-k.values.items k c.as_number.result ∙ c.loop-k.invariant.long;
    }
