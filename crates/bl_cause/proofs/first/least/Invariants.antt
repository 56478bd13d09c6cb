use Rattle.bl_cause.proofs.FirstLemmas.{Least}
use Rattle.bl_cause.proofs.first.least.Given as goal

abbrev pub invariant-loop-k : goal.invariant-loop-k
invariant-loop-k l = Least l.nodes l.edges l.k l.best
