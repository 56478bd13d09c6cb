use Rattle.std.proofs.Common.{◌≡◌, ◌++◌, map, drop}
use Rattle.bl_ctree.specs.Nodes.{seen_of}
use Rattle.bl_ctree.specs.inner.Wakings.{wake_seen}
use Rattle.bl_ctree.proofs.waking.+waking.Given as goal

abbrev pub invariant-all_woken-loop-branch : goal.invariant-all_woken-loop-branch
invariant-all_woken-loop-branch l = map seen_of l.made ++ map wake_seen (map seen_of (drop l.branch-index l.branches))
    ≡ map wake_seen (map seen_of l.branches)
