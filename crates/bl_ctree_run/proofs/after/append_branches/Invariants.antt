use Rattle.std.proofs.Common.{◌≡◌, ◌++◌, map, drop}
use Rattle.bl_ctree.specs.Nodes.{seen_of}
use Rattle.bl_ctree_run.proofs.after.append_branches.Given as goal

abbrev pub invariant-loop-branch : goal.invariant-loop-branch
invariant-loop-branch l = map seen_of l.into ++ map seen_of (drop l.branch-index l.branches) ≡ map seen_of l.initial.into ++ map seen_of l.branches
