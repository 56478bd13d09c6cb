use Rattle.std.proofs.Common.{◌≡◌, map, drop}
use Rattle.bl_ctree.specs.Nodes.{branches_of, seen_of}
use Rattle.bl_ctree_run.specs.inner.Wakings.{are_light}
use Rattle.bl_ctree_run.proofs.waking.+lightness.Given as goal

abbrev pub invariant-are_light-loop-branch : goal.invariant-are_light-loop-branch
invariant-are_light-loop-branch l = are_light (branches_of (map seen_of (drop l.branch-index l.branches)))
    ≡ are_light (branches_of (map seen_of l.branches))
