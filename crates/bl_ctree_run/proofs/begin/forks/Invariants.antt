use Rattle.std.proofs.Common.{◌≡◌, ◌++◌, map, drop}
use Rattle.bl_ctree.specs.Nodes.{seen_of}
use Rattle.bl_ctree_run.specs.inner.Spots.{seen_begun}
use Rattle.bl_ctree_run.proofs.begin.forks.Given as goal

abbrev pub invariant-loop-k : goal.invariant-loop-k
invariant-loop-k l = map seen_of l.made ++ seen_begun l.position l.k (drop l.k l.branches) ≡ seen_begun l.position 0 l.branches
