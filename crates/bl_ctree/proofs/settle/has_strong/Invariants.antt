use Rattle.std.proofs.Common.{◌≡◌, map, drop}
use Rattle.bl_ctree.specs.Control.{has_strong}
use Rattle.bl_ctree.specs.Nodes.{branches_of, seen_of}
use Rattle.bl_ctree.proofs.settle.has_strong.Given as goal

abbrev pub invariant-loop-branch : goal.invariant-loop-branch
invariant-loop-branch l = has_strong (branches_of (map seen_of (drop l.branch-index l.branches))) ≡ has_strong (branches_of (map seen_of l.branches))
