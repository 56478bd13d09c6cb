use Rattle.std.proofs.Common.{◌≡◌, ◌<◌, ◌∷◌, [], ◌++◌, ap, get_or, length, refl, subst, ◌∙◌, arith}
use Rattle.bl_cause_trees.proofs.KeptUnits.{copied, one_longer, with_none}
use Rattle.bl_cause_trees.proofs.copies.units_with.Goals as goal

pub loop-body-init : goal.loop-body-init
loop-body-init c =
    let same : c.into_iter-body-iterator.result.rest.items ≡ c.into_vec-body-items.result.items = c.into_iter-body-iterator.ensures.into_iter_gives.0 in
    let all = ap length (same ∙ c.into_vec-body-items.ensures) in
    let none = ap length c.new-copies.ensures in
    let few = c.requires in record { made = c.new-copies.ensures ∙ with_none c.args.units.now; many = none; left = omega arith }

pub bounds-units-len : goal.bounds-units-len
bounds-units-len c =
    let more = ap length c.in-Some.ensures.steps.0 in let left = c.loop-body.invariant.left in let count = c.len.ensures in omega arith

pub loop-body-preserved : goal.loop-body-preserved
loop-body-preserved c =
    let more = ap length c.in-Some.ensures.steps.0 in
    let left = c.loop-body.invariant.left in
    let many = c.loop-body.invariant.many in
    let copied_now = one_longer c.loop-body.copies c.push.new.self c.in_ok-unit_with.field-0 c.in_ok-push.ensures.ok in
    let yielded_now = one_longer c.loop-body.yielded _ c.in-Some.body refl in
    let inside : length c.loop-body.copies < length c.args.units.now = omega arith in record {
      made = copied c.args.units.now c.loop-body.yielded c.in-Some.body c.index-units-len.result c.loop-body.copies c.push.new.self
          c.loop-body.invariant.made many inside
          (subst (λ k. c.index-units-len.result ≡ get_or c.args.units.now k c.index-units-len.result) c.len.ensures c.index-units-len.is)
          (c.in_ok-push.ensures.ok ∙ ap (λ it. c.loop-body.copies ++ it ∷ []) c.in_ok-unit_with.ensures);
      many = omega arith;
      left = omega arith;
    }
