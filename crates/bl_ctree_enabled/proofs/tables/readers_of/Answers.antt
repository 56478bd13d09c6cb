use Rattle.std.proofs.Common.{◌≡◌, ◌+◌, ◌<◌, length, map, suc, ap, ◌∙◌, arith, subst}
use Rattle.std.specs.Prelude.{option_map}
use Rattle.bl_tree.proofs.Basics.{map_length}
use Rattle.bl_ctree_enabled.specs.Spots.{spot_of}
use Rattle.bl_ctree_enabled.specs.inner.Tables.{Noted, reads_in}
use Rattle.bl_ctree_enabled.proofs.ListLemmas.{map_get, map_here}
use Rattle.bl_ctree_enabled.proofs.TableLemmas.{branch_noted, branches_end}
use Rattle.bl_ctree_enabled.proofs.tables.readers_of.Goals as goal

pub loop-k-preserved : goal.loop-k-preserved
loop-k-preserved c =
    let all = c.args.points.now in
    let k = c.loop-k.k in
    let x = c.index-points-k.result in
    let within : k < length all = omega (arith, c.loop-k-test.true) in
    let next : k + 1 ≡ suc k = omega arith in
    branch_noted c.loop-k.made c.note_reads.new.self (map reads_in (map (map spot_of) all)) k (k + 1) (reads_in (map spot_of x)) next
    (map_get reads_in (map (map spot_of) all) k ∙ ap (option_map reads_in) (map_here (map spot_of) all k x within c.index-points-k.is))
    c.in_ok-note_reads.ensures.grows
    (subst (λ points. Noted c.note_reads.new.self k (reads_in (map spot_of points))) c.deref.ensures c.in_ok-note_reads.ensures.noted) c.loop-k.invariant

pub returns : goal.returns
returns c =
    let all = c.args.points.now in
    branches_end c.loop-k.made (map reads_in (map (map spot_of) all)) c.loop-k.k
    (omega (arith, c.loop-k-test.false, map_length (map spot_of) all, map_length reads_in (map (map spot_of) all))) c.loop-k.invariant
