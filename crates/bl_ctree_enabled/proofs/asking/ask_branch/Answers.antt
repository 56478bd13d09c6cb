use Rattle.std.proofs.Common.{◌≡◌, ◌∷◌, [], ◌<◌, get_or, slice_set, length, map, ap, sym, ◌∙◌, arith}
use Rattle.bl_tree.proofs.Basics.{map_length}
use Rattle.bl_ctree_store.specs.Seen.{location_of}
use Rattle.bl_ctree_enabled.specs.Listing.{trues}
use Rattle.bl_ctree_enabled.specs.Spots.{spot_of}
use Rattle.bl_ctree_enabled.specs.inner.Asked.{asked_flags}
use Rattle.bl_ctree_enabled.proofs.AskLemmas.{no_flags, no_points}
use Rattle.bl_ctree_enabled.proofs.ListLemmas.{list_here, list_map, set_read}
use Rattle.bl_ctree_enabled.proofs.ReplaceLemmas.{counts_set}
use Rattle.bl_ctree_enabled.proofs.asking.ask_branch.Goals as goal
use Rattle.bl_ctree_enabled.proofs.asking.ask_branch.Goals.{else-j-points-via-then-j-points+else-j-len, else-j-points-via-else-j-points}

pub returns-then-j-len-clause-free : goal.returns-then-j-len-clause-free
returns-then-j-len-clause-free c =
    let hs = map (map location_of) c.args.all.now in
    let j = c.args.j in
    let xs = c.args.points.now in
    let free = c.args.free.now in
    let in_points : j < length xs = omega (arith, c.if-j-points.true) in
    let in_free : j < length free = omega (arith, c.if-j-len.true, c.len.ensures) in
    let spots = ap (map spot_of) (c.deref.ensures ∙ sym (list_here xs j c.index-points-j.result in_points c.index-points-j.is))
    ∙ sym (list_map spot_of xs j) in
    let flags = sym (list_here free j c.get_mut.result.now in_free c.get_mut.ensures.value) in
    ap (slice_set free j)
    (c.ask_points.ensures ∙ (λ i. asked_flags hs j (location_of c.args.changed.now ∷ []) (spots i) (flags i)))

pub returns-then-j-len-clause-counts : goal.returns-then-j-len-clause-counts
returns-then-j-len-clause-counts c =
    let j = c.args.j in
    let free = c.args.free.now in
    let new = c.ask_points.new.free in
    let d = c.index-deref-j.result in
    let in_free : j < length free = omega (arith, c.if-j-len.true, c.len.ensures) in
    let read : c.trues.result ≡ trues new =
    c.trues.ensures
    ∙ ap trues (c.deref-then-j-len-2.ensures ∙ c.index-deref-j.is ∙ ap (λ xs. get_or xs j d) c.deref-then-j-len.ensures
    ∙ set_read free j new d in_free) in
    c.set.ensures ∙ ap (slice_set c.args.counts.now j) read ∙ counts_set free c.args.counts.now j new c.requires.counted

pub returns-else-j-points-clause-free : goal.returns-else-j-points-clause-free
returns-else-j-points-clause-free c =
    let hs = map (map location_of) c.args.all.now in
    let changed = location_of c.args.changed.now ∷ [] in
    let ms = map (map spot_of) c.args.points.now in
    elim c.else-j-points.branch [
      | else-j-points-via-then-j-points+else-j-len w ↦
          no_flags hs c.args.j changed ms c.args.free.now (omega (arith, w.if-j-len.false, w.len.ensures))
      | else-j-points-via-else-j-points w ↦
          no_points hs c.args.j changed ms c.args.free.now (omega (arith, w.if-j-points.false, map_length (map spot_of) c.args.points.now))
    ]
