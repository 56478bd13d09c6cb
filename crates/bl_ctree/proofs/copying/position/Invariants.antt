use Rattle.std.proofs.Common.{◌≡◌, take}
use Rattle.bl_ctree.proofs.copying.position.Given as goal

abbrev pub invariant-loop-k : goal.invariant-loop-k
invariant-loop-k l = l.made ≡ take l.k-index l.position
