use Rattle.std.proofs.Common.{◌≡◌, ◌+◌, ◌<◌, length, map, suc, ◌∙◌, arith}
use Rattle.bl_ctree_store.specs.Seen.{location_of}
use Rattle.bl_ctree_enabled.specs.Spots.{spot_of}
use Rattle.bl_ctree_enabled.proofs.AskLemmas.{asked_end, asked_more}
use Rattle.bl_ctree_enabled.proofs.ListLemmas.{get_here}
use Rattle.bl_ctree_enabled.proofs.asking.ask_all.Goals as goal

pub loop-home-preserved : goal.loop-home-preserved
loop-home-preserved c =
    let hs = map (map location_of) c.args.all.now in
    let ms = map (map spot_of) c.args.points.now in
    let changed = c.args.changed.now in
    let k = c.loop-home.home-index in
    let within : k < length changed = omega (arith, c.loop-home-test.true) in
    let next : k + 1 ≡ suc k = omega arith in (
      asked_more hs ms changed k (k + 1) c.home-item.result c.loop-home.free c.ask_readers.new.free next
          (get_here changed k c.home-item.result within c.home-item.is) c.ask_readers.ensures.free
          ∙ c.loop-home.invariant.0,
      c.ask_readers.ensures.counts,
    )

pub returns-clause-free : goal.returns-clause-free
returns-clause-free c =
    asked_end (map (map location_of) c.args.all.now) (map (map spot_of) c.args.points.now) c.args.changed.now c.loop-home.home-index c.loop-home.free
    (omega (arith, c.loop-home-test.false))
    ∙ c.loop-home.invariant.0
