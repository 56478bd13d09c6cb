use Rattle.std.proofs.Common.{◌≡◌, take, true}
use Rattle.bl_simplify.specs.Simplified.{NoneDearer}
use Rattle.bl_simplify.proofs.costs.are_no_dearer.Given as goal

abbrev pub invariant-loop-k : goal.invariant-loop-k
invariant-loop-k l = l.kept ≡ true → NoneDearer (take l.k l.new) (take l.k l.old)
