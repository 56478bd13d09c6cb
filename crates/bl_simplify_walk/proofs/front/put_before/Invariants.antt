use Rattle.std.proofs.Common.{◌≡◌, ◌++◌, length}
use Rattle.bl_simplify_walk.proofs.front.put_before.Given as goal

abbrev pub invariant-loop-stmt : goal.invariant-loop-stmt
invariant-loop-stmt l = l.left.items ++ l.made ≡ l.fn.stmts.items ++ l.fn.following

abbrev pub decreases-loop-stmt : goal.decreases-loop-stmt
decreases-loop-stmt l = length l.left.items
