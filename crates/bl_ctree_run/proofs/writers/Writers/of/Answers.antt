use Rattle.std.proofs.Common.{◌≡◌, ◌+◌, arith, map, suc}
use Rattle.bl_ctree.specs.Nodes.{seen_of}
use Rattle.bl_ctree_store.specs.Seen.{setting_in}
use Rattle.bl_ctree_enabled.specs.Spots.{homes_seen}
use Rattle.bl_ctree_run.specs.inner.Writers.{all_writes, of_variable, writes_kept}
use Rattle.bl_ctree_run.proofs.BranchLemmas.{branch_here}
use Rattle.bl_ctree_run.proofs.WriterLemmas.{branch_noted}
use Rattle.bl_ctree_run.proofs.writers.Writers.of.Goals as goal

pub loop-k-preserved : goal.loop-k-preserved
loop-k-preserved c at =
    let w = setting_in c.args.w.now in
    let k = c.loop-k.k in
    let branches = c.args.branches.now in
    let branch = c.index-branches-k.result in
    let next : k + 1 ≡ suc k = omega arith in
    branch_noted at w c.args.i (map seen_of branches) k (k + 1) (seen_of branch) (writes_kept c.loop-k.writers at) (writes_kept c.note_branch.new.self at)
    (of_variable at (all_writes (map (homes_seen w c.args.i) (map seen_of branches)))) next
    (branch_here seen_of branches k branch c.loop-k-test.true c.index-branches-k.is)
    (c.in_ok-note_branch.ensures at) (c.loop-k.invariant at)
