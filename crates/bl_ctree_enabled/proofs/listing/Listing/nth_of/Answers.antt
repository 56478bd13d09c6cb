use Rattle.std.proofs.Common.{◌≡◌, ◌<◌, get_or, length, map, ap, sym, ◌∙◌, arith}
use Rattle.std.specs.Prelude.{slice_get}
use Rattle.bl_tree.proofs.Basics.{map_length}
use Rattle.bl_ctree_enabled.specs.Listing.{flagged, list_at}
use Rattle.bl_ctree_enabled.specs.Spots.{spot_of}
use Rattle.bl_ctree_enabled.proofs.ListLemmas.{list_here, list_map, none_behind_flags, none_behind_lists}
use Rattle.bl_ctree_enabled.proofs.listing.Listing.nth_of.Goals as goal

pub returns-then-k-len : goal.returns-then-k-len
returns-then-k-len c =
    none_behind_lists c.args.self.now.free (map (map spot_of) c.args.self.now.points) c.args.k c.args.n
    (omega (arith, c.if-k-len.true, c.len.ensures, map_length (map spot_of) c.args.self.now.points))

pub returns-then-k-len-2 : goal.returns-then-k-len-2
returns-then-k-len-2 c =
    none_behind_flags c.args.self.now.free (map (map spot_of) c.args.self.now.points) c.args.k c.args.n
    (omega (arith, c.if-k-len-2.true, c.len-2.ensures))

pub returns : goal.returns
returns c =
    let k = c.args.k in
    let points = c.args.self.now.points in
    let free = c.args.self.now.free in
    let p = c.index-deref-k.result in
    let f = c.index-deref-k-2.result in
    let in_points : k < length points = omega (arith, c.if-k-len.false, c.len.ensures) in
    let in_free : k < length free = omega (arith, c.if-k-len-2.false, c.len-2.ensures) in
    let spots : map spot_of c.deref-2.result.now ≡ list_at (map (map spot_of) points) k =
    ap (map spot_of) (c.deref-2.ensures ∙ sym (list_here points k p in_points (c.index-deref-k.is ∙ ap (λ xs. get_or xs k p) c.deref.ensures)))
    ∙ sym (list_map spot_of points k) in
    let flags : c.deref-4.result.now ≡ list_at free k =
    c.deref-4.ensures ∙ sym (list_here free k f in_free (c.index-deref-k-2.is ∙ ap (λ xs. get_or xs k f) c.deref-3.ensures)) in
    c.nth.ensures ∙ (λ i. slice_get (flagged (flags i) (spots i)) c.args.n)
