use Rattle.bl_link.proofs.Joining.{Joins}
use Rattle.bl_link.proofs.whole.join.Given as goal

abbrev pub invariant-loop-k : goal.invariant-loop-k
invariant-loop-k l = Joins l.parts l.k l.joined
