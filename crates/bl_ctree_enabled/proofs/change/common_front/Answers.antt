use Rattle.std.proofs.Common.{◌≡◌, ◌+◌, ◌<◌, Some, suc, length, map, ap, sym, ◌∙◌, arith}
use Rattle.bl_ctree_store.specs.Seen.{location_of}
use Rattle.bl_ctree_enabled.proofs.ChangeLemmas.{front_more}
use Rattle.bl_ctree_enabled.proofs.ListLemmas.{map_here}
use Rattle.bl_ctree_enabled.proofs.change.common_front.Goals as goal

pub loop-k-preserved : goal.loop-k-preserved
loop-k-preserved c =
    let a = c.args.a.now in
    let b = c.args.b.now in
    let k = c.loop-k.k in
    let in_a : k < length a = omega (arith, c.loop-k-test.true) in
    let in_b : k < length b = omega (arith, c.if-k-b.false) in
    let next : k + 1 ≡ suc k = omega arith in (
      front_more k (k + 1) (map location_of a) (map location_of b) (location_of c.index-a-k.result) next
          (map_here location_of a k c.index-a-k.result in_a c.index-a-k.is)
          (map_here location_of b k c.index-b-k.result in_b c.index-b-k.is ∙ ap Some (sym (c.same_home.ensures c.if-not-same_home.false)))
          c.loop-k.invariant.0,
      omega (arith, in_b),
    )
