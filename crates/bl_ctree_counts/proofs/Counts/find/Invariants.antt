use Rattle.std.proofs.Common.{◌≡◌, ◌+◌, ◌*◌, take}
use Rattle.std.specs.List.{sum}
use Rattle.bl_ctree_counts.proofs.Counts.find.Given as goal

abbrev pub invariant-loop-b : goal.invariant-loop-b
invariant-loop-b l = sum (take (64 * l.b) l.self) + l.beyond ≡ l.fn.n
