use Rattle.std.proofs.Common.{◌≡◌, ◌∷◌, [], ◌++◌, ◌+◌, ◌<◌, length, map, take, drop, suc, ap, sym, ◌∙◌, arith}
use Rattle.bl_tree.proofs.Basics.{map_length, same_some}
use Rattle.bl_ctree_store.specs.Seen.{location_of}
use Rattle.bl_ctree_enabled.specs.declared.point.Point.{Point}
use Rattle.bl_ctree_enabled.specs.Listing.{touches}
use Rattle.bl_ctree_enabled.specs.Spots.{spot_of}
use Rattle.bl_ctree_enabled.specs.inner.Asked.{asked_flags}
use Rattle.bl_ctree_enabled.proofs.AskLemmas.{flag_asked, flag_left, flag_past, flags_length}
use Rattle.bl_ctree_enabled.proofs.ListLemmas.{get_here, map_here, mixed_end, mixed_many}
use Rattle.bl_ctree_enabled.proofs.asking.ask_points.Goals as goal
use Rattle.bl_ctree_enabled.proofs.asking.ask_points.Goals.{then-m-points+then-touches, else-m-points, else-m-points-via-then-m-points+else-touches}
use Rattle.bl_ctree_enabled.proofs.asking.ask_points.Goals.{else-m-points-via-else-m-points}

pub set-requires : goal.set-requires
set-requires c =
    let hs = map (map location_of) c.args.all.now in
    let changed = location_of c.args.changed.now ∷ [] in
    let spots = map spot_of c.args.points.now in
    let was = c.args.free.now in
    let now = asked_flags hs c.args.j changed spots was in
    let many = flags_length hs c.args.j changed spots was in
    omega (arith, c.loop-m-test.true, c.len-m-end.ensures, ap length c.loop-m.invariant, mixed_many now was c.loop-m.m (sym many), many)

pub loop-m-preserved : goal.loop-m-preserved
loop-m-preserved c =
    let hs = map (map location_of) c.args.all.now in
    let j = c.args.j in
    let changed = location_of c.args.changed.now ∷ [] in
    let xs = c.args.points.now in
    let spots = map spot_of xs in
    let was = c.args.free.now in
    let now = asked_flags hs j changed spots was in
    let m = c.loop-m.m in
    let within : m < length was = omega (arith, c.loop-m-test.true, c.len-m-end.ensures) in
    let next : suc m ≡ m + 1 = omega arith in
    elim c.if-m-points.branch [
      | then-m-points+then-touches w ↦
          let p = w.index-points-m.result in
          let q = w.index-points-m-then-touches.result in
          let in_points : m < length xs = omega (arith, w.if-m-points.true) in
          let same : p ≡ q =
          same_some p q (sym (get_here xs m p in_points w.index-points-m.is) ∙ get_here xs m q in_points w.index-points-m-then-touches.is) in
          let read = ap (λ (q : Point). q.reads) (sym w.index-points-m.is ∙ same) in
          let meets = sym (w.touches.ensures ∙ ap (λ r. touches changed (map location_of r)) (w.deref.ensures ∙ read)) ∙ w.if-touches.true in
          flag_asked hs j changed spots was m (spot_of q) c.loop-m.free c.if-m-points.free w.is_free.result within
          (map_here spot_of xs m q in_points w.index-points-m-then-touches.is) meets w.is_free.ensures (w.free-is ∙ w.set.ensures) c.loop-m.invariant
      | else-m-points w ↦ elim w.else-m-points.branch [
        | else-m-points-via-then-m-points+else-touches v ↦
            let p = v.index-points-m.result in
            let in_points : m < length xs = omega (arith, v.if-m-points.true) in
            let read = ap (λ (q : Point). q.reads) (sym v.index-points-m.is) in
            let off = sym (v.touches.ensures ∙ ap (λ r. touches changed (map location_of r)) (v.deref.ensures ∙ read)) ∙ v.if-touches.false in
            w.free-is
            ∙ flag_left hs j changed spots was m (spot_of p) c.loop-m.free within
            (map_here spot_of xs m p in_points v.index-points-m.is) off c.loop-m.invariant
        | else-m-points-via-else-m-points v ↦
            w.free-is
            ∙ flag_past hs j changed spots was m c.loop-m.free within (omega (arith, v.if-m-points.false, map_length spot_of xs)) c.loop-m.invariant
      ]
    ]
    ∙ ap (λ n. take n now ++ drop n was) next

pub returns : goal.returns
returns c =
    let hs = map (map location_of) c.args.all.now in
    let changed = location_of c.args.changed.now ∷ [] in
    let spots = map spot_of c.args.points.now in
    let was = c.args.free.now in
    let now = asked_flags hs c.args.j changed spots was in
    let many = flags_length hs c.args.j changed spots was in
    c.loop-m.invariant ∙ mixed_end now was c.loop-m.m (sym many) (omega (arith, c.loop-m-test.false, c.len-m-end.ensures, many))
