use Rattle.std.proofs.Common.{◌≡◌, ◌+◌, ◌<◌, length, map, suc, arith, subst}
use Rattle.bl_tree.proofs.Basics.{map_length}
use Rattle.bl_ctree_store.specs.Seen.{location_of}
use Rattle.bl_ctree_enabled.specs.Spots.{spot_of}
use Rattle.bl_ctree_enabled.specs.inner.Tables.{Noted}
use Rattle.bl_ctree_enabled.proofs.ListLemmas.{map_here}
use Rattle.bl_ctree_enabled.proofs.TableLemmas.{reads_end, reads_more}
use Rattle.bl_ctree_enabled.proofs.table.Table.note_reads.Goals as goal

pub loop-point-preserved : goal.loop-point-preserved
loop-point-preserved c =
    let points = c.args.points.now in
    let count = c.loop-point.point-index in
    let within : count < length points = omega (arith, c.loop-point-test.true) in
    let next : count + 1 ≡ suc count = omega arith in
    let grows = c.in_ok-note_all.ensures.grows in
    let noted = subst (λ reads. Noted c.note_all.new.self c.args.k (map location_of reads)) c.deref.ensures c.in_ok-note_all.ensures.noted in (
      reads_more c.loop-point.self c.note_all.new.self c.args.k (map spot_of points) count (count + 1) (spot_of c.point-item.result) next
          (map_here spot_of points count c.point-item.result within c.point-item.is) grows noted c.loop-point.invariant.0,
      λ k at was. grows k at (c.loop-point.invariant.1 k at was),
    )

pub returns-clause-noted : goal.returns-clause-noted
returns-clause-noted c =
    let points = c.args.points.now in
    reads_end c.loop-point.self c.args.k (map spot_of points) c.loop-point.point-index (omega (arith, c.loop-point-test.false, map_length spot_of points))
    c.loop-point.invariant.0
