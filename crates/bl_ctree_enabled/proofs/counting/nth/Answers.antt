use Rattle.std.proofs.Common.{◌≡◌, ◌+◌, ◌<◌, ◌≤◌, true, false, length, map, drop, suc, ap, sym, ◌∙◌, arith}
use Rattle.std.specs.Prelude.{slice_get}
use Rattle.bl_tree.proofs.Basics.{map_length}
use Rattle.bl_ctree_enabled.specs.Listing.{flagged}
use Rattle.bl_ctree_enabled.specs.Spots.{spot_of}
use Rattle.bl_ctree_enabled.proofs.ListLemmas.{flag_here, flag_passed, flag_skipped, flagged_first, flagged_past, map_here}
use Rattle.bl_ctree_enabled.proofs.counting.nth.Goals as goal
use Rattle.bl_ctree_enabled.proofs.counting.nth.Goals.{then-flags-k+else-left-eq0, else-flags-k}

pub returns-then-left-eq0 : goal.returns-then-left-eq0
returns-then-left-eq0 c =
    let k = c.loop-k.k in
    let bs = c.args.flags.now in
    let xs = c.args.points.now in
    let in_flags : k < length bs = omega (arith, c.if-k-flags.false) in
    let in_points : k < length xs = omega (arith, c.loop-k-test.true) in
    let none : c.loop-k.left ≡ 0 = omega (arith, c.if-left-eq0.true) in
    sym (sym c.loop-k.invariant ∙ ap (λ n. slice_get (flagged (drop k bs) (drop k (map spot_of xs))) n) none
    ∙ flagged_first bs (map spot_of xs) k (spot_of c.index-points-k.result) (flag_here bs k true _ in_flags c.if-flags-k.true)
    (map_here spot_of xs k c.index-points-k.result in_points c.index-points-k.is))

pub loop-k-preserved : goal.loop-k-preserved
loop-k-preserved c =
    let k = c.loop-k.k in
    let bs = c.args.flags.now in
    let xs = c.args.points.now in
    let in_flags : k < length bs = omega (arith, c.if-k-flags.false) in
    let in_points : k < length (map spot_of xs) = omega (arith, c.loop-k-test.true, map_length spot_of xs) in
    let next : k + 1 ≡ suc k = omega arith in
    ap (λ j. slice_get (flagged (drop j bs) (drop j (map spot_of xs))) c.if-flags-k.left) next
    ∙ elim c.if-flags-k.branch [
      | then-flags-k+else-left-eq0 w ↦
          sym (flag_passed bs (map spot_of xs) k c.loop-k.left c.if-flags-k.left (flag_here bs k true _ in_flags w.if-flags-k.true) in_points
          (omega (arith, w.left-is, w.if-left-eq0.false)))
      | else-flags-k w ↦
          ap (λ n. slice_get (flagged (drop (suc k) bs) (drop (suc k) (map spot_of xs))) n) w.left-is
          ∙ ap (λ spots. slice_get spots c.loop-k.left)
          (sym (flag_skipped bs (map spot_of xs) k (flag_here bs k false _ in_flags w.if-flags-k.false) in_points))
    ]
    ∙ c.loop-k.invariant

pub returns : goal.returns
returns c =
    let k = c.loop-k.k in
    let bs = c.args.flags.now in
    let xs = c.args.points.now in
    let past : length (map spot_of xs) ≤ k = omega (arith, c.loop-k-test.false, map_length spot_of xs) in
    sym (sym c.loop-k.invariant ∙ ap (λ spots. slice_get spots c.loop-k.left) (flagged_past bs (map spot_of xs) k past))
