use Rattle.std.proofs.Common.{◌≡◌, map, drop}
use Rattle.bl_ctree.specs.Control.{some_ended}
use Rattle.bl_ctree.specs.Nodes.{branches_of, seen_of}
use Rattle.bl_ctree.proofs.settle.some_ended.Given as goal

abbrev pub invariant-loop-branch : goal.invariant-loop-branch
invariant-loop-branch l = some_ended (branches_of (map seen_of (drop l.branch-index l.branches))) ≡ some_ended (branches_of (map seen_of l.branches))
