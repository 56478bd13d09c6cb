use Rattle.std.proofs.Common.{◌≡◌, ◌+◌, take}
use Rattle.std.specs.List.{sum}
use Rattle.bl_ctree_counts.proofs.find_from.Given as goal

abbrev pub invariant-loop-at : goal.invariant-loop-at
invariant-loop-at l = sum (take l.at l.each) + l.rest ≡ sum (take l.from l.each) + l.beyond
