use Rattle.std.proofs.Common.{◌≡◌, map, drop}
use Rattle.bl_ctree.specs.Control.{are_settled}
use Rattle.bl_ctree.specs.Nodes.{branches_of, seen_of}
use Rattle.bl_ctree.proofs.settle.+settling.Given as goal

abbrev pub invariant-are_settled-loop-branch : goal.invariant-are_settled-loop-branch
invariant-are_settled-loop-branch l = are_settled (branches_of (map seen_of (drop l.branch-index l.branches)))
    ≡ are_settled (branches_of (map seen_of l.branches))
