use Rattle.bl_link_together.proofs.Joining.{Joins}
use Rattle.bl_link_together.proofs.together.joined_of.Given as goal

abbrev pub invariant-loop-k : goal.invariant-loop-k
invariant-loop-k l = Joins l.texts l.k l.joined
