use Rattle.std.proofs.Common.{◌≡◌, ◌++◌, drop}
use Rattle.bl_simplify_walk.proofs.made.with_copies.Given as goal

abbrev pub invariant-loop-k : goal.invariant-loop-k
invariant-loop-k l = l.made ≡ drop l.k l.block ++ l.fn.rest
