use Rattle.std.proofs.Common.{◌≡◌, map, drop}
use Rattle.bl_ctree.specs.Control.{strong_ended}
use Rattle.bl_ctree.specs.Nodes.{branches_of, seen_of}
use Rattle.bl_ctree.proofs.settle.strong_ended.Given as goal

abbrev pub invariant-loop-branch : goal.invariant-loop-branch
invariant-loop-branch l = strong_ended (branches_of (map seen_of (drop l.branch-index l.branches))) ≡ strong_ended (branches_of (map seen_of l.branches))
