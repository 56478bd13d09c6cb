use Rattle.std.proofs.Common.{◌≡◌, ◌+◌, ◌<◌, length, map, suc, arith, subst}
use Rattle.bl_tree.proofs.Basics.{map_length}
use Rattle.bl_ctree_store.specs.Seen.{location_of}
use Rattle.bl_ctree_enabled.specs.inner.Tables.{Noted}
use Rattle.bl_ctree_enabled.proofs.ListLemmas.{map_here}
use Rattle.bl_ctree_enabled.proofs.TableLemmas.{branch_noted, branches_end}
use Rattle.bl_ctree_enabled.proofs.tables.writers_of.Goals as goal

pub loop-k-preserved : goal.loop-k-preserved
loop-k-preserved c =
    let all = c.args.homes.now in
    let k = c.loop-k.k in
    let x = c.index-homes-k.result in
    let within : k < length all = omega (arith, c.loop-k-test.true) in
    let next : k + 1 ≡ suc k = omega arith in
    branch_noted c.loop-k.made c.note_all.new.self (map (map location_of) all) k (k + 1) (map location_of x) next
    (map_here (map location_of) all k x within c.index-homes-k.is) c.in_ok-note_all.ensures.grows
    (subst (λ homes. Noted c.note_all.new.self k (map location_of homes)) c.deref.ensures c.in_ok-note_all.ensures.noted) c.loop-k.invariant

pub returns : goal.returns
returns c =
    let all = c.args.homes.now in
    branches_end c.loop-k.made (map (map location_of) all) c.loop-k.k (omega (arith, c.loop-k-test.false, map_length (map location_of) all)) c.loop-k.invariant
