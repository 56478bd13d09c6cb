use Rattle.std.proofs.Common.{map, ap, sym, ◌∙◌, subst}
use Rattle.std.specs.Map.Iter.{deref}
use Rattle.std.proofs.lemmas.Map.Iter.{rest_all, rest_more}
use Rattle.bl_tree.proofs.Basics.{map_length}
use Rattle.bl_ctree_store.specs.Seen.{location_of}
use Rattle.bl_ctree_enabled.specs.Spots.{spot_of}
use Rattle.bl_ctree_enabled.specs.inner.Tables.{near}
use Rattle.bl_ctree_enabled.proofs.AskLemmas.{Reached, reached_end, reached_more, reached_start}
use Rattle.bl_ctree_enabled.proofs.asking.ask_readers.Goals as goal

pub loop-key-init : goal.loop-key-init
loop-key-init c =
    let hs = map (map location_of) c.args.all.now in
    let changed = location_of c.args.changed.now in
    let ms = map (map spot_of) c.args.points.now in
    let was = c.args.free.now in
    let keys = c.into_iter-key-iterator.ensures.into_iter_gives ∙ c.near-key-items.ensures
    ∙ ap (near c.args.readers.now changed) (sym (map_length (map spot_of) c.args.points.now)) in (
      subst (Reached hs changed ms was was) (sym keys) (reached_start hs changed ms was c.args.readers.now c.requires.readers),
      c.requires.counted,
    )

pub loop-key-preserved : goal.loop-key-preserved
loop-key-preserved c =
    let hs = map (map location_of) c.args.all.now in
    let changed = location_of c.args.changed.now in
    let ms = map (map spot_of) c.args.points.now in
    let was = c.args.free.now in
    let turn = rest_more deref c.loop-key.key-iterator c.next.new.self c.next.result c.in-Some.key c.in-Some.is c.next.ensures.steps in (
      reached_more hs changed ms was c.loop-key.free c.ask_branch.new.free c.in-Some.key.now c.next.new.self c.ask_branch.ensures.free
          (subst (Reached hs changed ms was c.loop-key.free) turn c.loop-key.invariant.0),
      c.ask_branch.ensures.counts,
    )

pub returns-clause-free : goal.returns-clause-free
returns-clause-free c =
    let hs = map (map location_of) c.args.all.now in
    let changed = location_of c.args.changed.now in
    let ms = map (map spot_of) c.args.points.now in
    let was = c.args.free.now in
    let end = rest_all deref c.loop-key.key-iterator c.next.new.self c.next.result c.in-None.is c.next.ensures.steps in
    reached_end hs changed ms was c.loop-key.free (subst (Reached hs changed ms was c.loop-key.free) end c.loop-key.invariant.0)
