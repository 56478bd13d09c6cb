use Rattle.std.proofs.Common.{◌≡◌, ◌∙◌, ap, sym, subst, arith, ℤ, pos, ◌+ℤ◌, ◌-ℤ◌, ◌≤ℤ◌, ◌<ℤ◌, to_z, of_z, rules}
use Rattle.std.proofs.lemmas.Int.{clamps, ints, to_z-of_z}
use Rattle.std.specs.Int.{int_max, int_min, w128}
use Rattle.bl_plant.proofs.tank.level_with.Goals as goal

pub returns-then-inflow-drain-clause-is : goal.returns-then-inflow-drain-clause-is
returns-then-inflow-drain-clause-is c = omega (arith, ints, clamps, c.requires, c.ranges, c.if-inflow-drain.true)

pub returns-then-inflow-drain-2-clause-is : goal.returns-then-inflow-drain-2-clause-is
returns-then-inflow-drain-2-clause-is c = omega (arith, ints, clamps, c.requires, c.ranges, c.if-inflow-drain.false, c.if-inflow-drain-2.true)

pub change-requires-clause-low : goal.change-requires-clause-low
change-requires-clause-low c = omega (arith, ints, c.requires, c.ranges, c.if-inflow-drain.false, c.if-inflow-drain-2.false)

pub change-requires-clause-high : goal.change-requires-clause-high
change-requires-clause-high c = omega (arith, ints, c.requires, c.ranges, c.if-inflow-drain.false, c.if-inflow-drain-2.false)

-- the change that was found
change-is : (inflow drain result : ℤ) → to_z w128 (of_z w128 inflow) ≡ inflow → to_z w128 (of_z w128 drain) ≡ drain →
    result ≡ (to_z w128 (of_z w128 inflow) -ℤ to_z w128 (of_z w128 drain)) → result ≡ (inflow -ℤ drain)
change-is inflow drain result a b is = is ∙ ap (λ x. x -ℤ to_z w128 (of_z w128 drain)) a ∙ ap (λ x. inflow -ℤ x) b

-- the level that was found
level-is : (level change result : ℤ) → to_z w128 (of_z w128 level) ≡ level → to_z w128 (of_z w128 change) ≡ change →
    result ≡ (to_z w128 (of_z w128 level) +ℤ to_z w128 (of_z w128 change)) → result ≡ (level +ℤ change)
level-is level change result a b is = is ∙ ap (λ x. x +ℤ to_z w128 (of_z w128 change)) a ∙ ap (λ x. level +ℤ x) b

within : (level inflow drain change result : ℤ) → change ≡ (inflow -ℤ drain) → result ≡ (level +ℤ change) → (drain -ℤ level) <ℤ inflow →
    inflow <ℤ ((pos 1000 +ℤ drain) -ℤ level) → result ≡ int_max (pos 0) (int_min (pos 1000) ((level +ℤ inflow) -ℤ drain))
within level inflow drain change result change_is result_is low high = omega (arith, ints, clamps, change_is, result_is, low, high)

low-of : (level inflow drain change result : ℤ) → change ≡ (inflow -ℤ drain) → result ≡ (level +ℤ change) →
    (drain -ℤ level) <ℤ inflow → pos 0 ≤ℤ result
low-of level inflow drain change result change_is result_is low = omega (arith, ints, change_is, result_is, low)

high-of : (level inflow drain change result : ℤ) → change ≡ (inflow -ℤ drain) → result ≡ (level +ℤ change) →
    inflow <ℤ ((pos 1000 +ℤ drain) -ℤ level) → result ≤ℤ pos 1000
high-of level inflow drain change result change_is result_is high = omega (arith, ints, change_is, result_is, high)

pub raised-requires-clause-low : goal.raised-requires-clause-low
raised-requires-clause-low c =
    let change = change-is c.args.inflow c.args.drain c.change.result (to_z-of_z w128 c.args.inflow (search rules))
    (to_z-of_z w128 c.args.drain (search rules)) c.change.ensures in
    omega (arith, ints, c.requires, c.ranges, change, c.if-inflow-drain.false, c.if-inflow-drain-2.false)

pub raised-requires-clause-high : goal.raised-requires-clause-high
raised-requires-clause-high c =
    let change = change-is c.args.inflow c.args.drain c.change.result (to_z-of_z w128 c.args.inflow (search rules))
    (to_z-of_z w128 c.args.drain (search rules)) c.change.ensures in
    omega (arith, ints, c.requires, c.ranges, change, c.if-inflow-drain.false, c.if-inflow-drain-2.false)

pub returns-clause-is : goal.returns-clause-is
returns-clause-is c =
    let change = change-is c.args.inflow c.args.drain c.change.result (to_z-of_z w128 c.args.inflow (search rules))
    (to_z-of_z w128 c.args.drain (search rules)) c.change.ensures in
    let level = level-is c.args.level c.change.result c.raised.result (to_z-of_z w128 c.args.level (search rules))
    (to_z-of_z w128 c.change.result (search rules)) c.raised.ensures in
    let low : (c.args.drain -ℤ c.args.level) <ℤ c.args.inflow = omega (arith, ints, c.requires, c.ranges, c.if-inflow-drain-2.false) in
    let high : c.args.inflow <ℤ ((pos 1000 +ℤ c.args.drain) -ℤ c.args.level) = omega (arith, ints, c.requires, c.ranges, c.if-inflow-drain.false) in
    to_z-of_z w128 c.raised.result (search rules)
    ∙ within c.args.level c.args.inflow c.args.drain c.change.result c.raised.result change level low high

pub returns-clause-low : goal.returns-clause-low
returns-clause-low c =
    let change = change-is c.args.inflow c.args.drain c.change.result (to_z-of_z w128 c.args.inflow (search rules))
    (to_z-of_z w128 c.args.drain (search rules)) c.change.ensures in
    let level = level-is c.args.level c.change.result c.raised.result (to_z-of_z w128 c.args.level (search rules))
    (to_z-of_z w128 c.change.result (search rules)) c.raised.ensures in
    let low : (c.args.drain -ℤ c.args.level) <ℤ c.args.inflow = omega (arith, ints, c.requires, c.ranges, c.if-inflow-drain-2.false) in
    subst (λ x. pos 0 ≤ℤ x) (sym (to_z-of_z w128 c.raised.result (search rules)))
    (low-of c.args.level c.args.inflow c.args.drain c.change.result c.raised.result change level low)

pub returns-clause-high : goal.returns-clause-high
returns-clause-high c =
    let change = change-is c.args.inflow c.args.drain c.change.result (to_z-of_z w128 c.args.inflow (search rules))
    (to_z-of_z w128 c.args.drain (search rules)) c.change.ensures in
    let level = level-is c.args.level c.change.result c.raised.result (to_z-of_z w128 c.args.level (search rules))
    (to_z-of_z w128 c.change.result (search rules)) c.raised.ensures in
    let high : c.args.inflow <ℤ ((pos 1000 +ℤ c.args.drain) -ℤ c.args.level) = omega (arith, ints, c.requires, c.ranges, c.if-inflow-drain.false) in
    subst (λ x. x ≤ℤ pos 1000) (sym (to_z-of_z w128 c.raised.result (search rules)))
    (high-of c.args.level c.args.inflow c.args.drain c.change.result c.raised.result change level high)
