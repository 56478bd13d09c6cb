use Rattle.std.proofs.Common.{◌≡◌, ap, ◌∙◌, rules}
use Rattle.bl_tree.specs.declared.c.CPlace.{out-CPlace}
use Rattle.bl_ctext_places.specs.Counters.{is_counter_name}
use Rattle.bl_simplify.proofs.OnCounters.{any_done, any_next, member_of, names_one}
use Rattle.bl_simplify.proofs.counters.names_counter.Goals as goal

pub loop-step-preserved : goal.loop-step-preserved
loop-step-preserved c =
    let member : c.as_bytes.result.now ≡ member_of c.step-item.result = search rules in
    any_next (λ s. is_counter_name (member_of s)) _ c.loop-step.step-index c.step-item.result c.loop-step.names
    c.is_counter_name-names.result _ c.loop-step-test.true c.step-item.is (c.is_counter_name-names.ensures ∙ ap is_counter_name member) c.loop-step.invariant

pub returns : goal.returns
returns c =
    let same : c.as_slice-step-items.result.now ≡ (out-CPlace c.args.place.now).steps = search rules in
    any_done (λ s. is_counter_name (member_of s)) _ c.loop-step.step-index c.loop-step.names _ c.loop-step-test.false c.loop-step.invariant
    ∙ names_one c.args.place.now _ same
