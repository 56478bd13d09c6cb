use Rattle.std.proofs.Common.{◌≡◌, ◌+◌, ◌-◌, ◌<◌, Some, suc, length, map, drop, ap, sym, ◌∙◌, arith}
use Rattle.bl_ctree_store.specs.Seen.{location_of}
use Rattle.bl_ctree_enabled.proofs.ChangeLemmas.{back_more}
use Rattle.bl_ctree_enabled.proofs.ListLemmas.{map_here}
use Rattle.bl_ctree_enabled.proofs.change.common_back.Goals as goal

pub loop-k-preserved : goal.loop-k-preserved
loop-k-preserved c =
    let a = c.args.a.now in
    let b = c.args.b.now in
    let k = c.loop-k.k in
    let in_a : k < length a = omega (arith, c.loop-k-test.true) in
    let in_b : k < length b = omega (arith, c.if-k-b.false) in
    let at_a : length a - 1 - k < length a = omega (arith, in_a) in
    let at_b : length b - 1 - k < length b = omega (arith, in_b) in
    let last_a : length a - k ≡ suc (length a - 1 - k) = omega (arith, in_a) in
    let last_b : length b - k ≡ suc (length b - 1 - k) = omega (arith, in_b) in
    let next_a : length a - (k + 1) ≡ length a - 1 - k = omega arith in
    let next_b : length b - (k + 1) ≡ length b - 1 - k = omega arith in (
      ap (λ n. drop n (map location_of a)) next_a
          ∙ back_more (length a - 1 - k) (length b - 1 - k) (length a - k) (length b - k) (map location_of a) (map location_of b)
          (location_of c.index-a-a.result) last_a last_b
          (map_here location_of a (length a - 1 - k) c.index-a-a.result at_a c.index-a-a.is)
          (map_here location_of b (length b - 1 - k) c.index-b-b.result at_b c.index-b-b.is ∙ ap Some (sym (c.same_home.ensures c.if-not-same_home.false)))
          c.loop-k.invariant.0
          ∙ ap (λ n. drop n (map location_of b)) (sym next_b),
      omega (arith, in_b),
    )
