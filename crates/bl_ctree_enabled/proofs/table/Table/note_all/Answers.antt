use Rattle.std.proofs.Common.{◌≡◌, ◌+◌, ◌<◌, length, map, suc, arith}
use Rattle.bl_tree.proofs.Basics.{map_length}
use Rattle.bl_ctree_store.specs.Seen.{location_of}
use Rattle.bl_ctree_enabled.proofs.ListLemmas.{map_here}
use Rattle.bl_ctree_enabled.proofs.TableLemmas.{noted_end, noted_more}
use Rattle.bl_ctree_enabled.proofs.table.Table.note_all.Goals as goal

pub loop-at-preserved : goal.loop-at-preserved
loop-at-preserved c =
    let homes = c.args.homes.now in
    let count = c.loop-at.at-index in
    let within : count < length homes = omega (arith, c.loop-at-test.true) in
    let next : count + 1 ≡ suc count = omega arith in
    let grows = c.in_ok-note.ensures.grows in (
      noted_more c.loop-at.self c.note.new.self c.args.k (map location_of homes) count (count + 1) (location_of c.at-item.result) next
          (map_here location_of homes count c.at-item.result within c.at-item.is) grows c.in_ok-note.ensures.noted c.loop-at.invariant.0,
      λ k at was. grows k at (c.loop-at.invariant.1 k at was),
    )

pub returns-clause-noted : goal.returns-clause-noted
returns-clause-noted c =
    let homes = c.args.homes.now in
    noted_end c.loop-at.self c.args.k (map location_of homes) c.loop-at.at-index (omega (arith, c.loop-at-test.false, map_length location_of homes))
    c.loop-at.invariant.0
