use Rattle.bl_cause.specs.inner.Orders.{state_of}
use Rattle.bl_cause.proofs.OrderLemmas.{Searched}
use Rattle.bl_cause.proofs.finishing.from_all.Given as goal

abbrev pub invariant-loop-node : goal.invariant-loop-node
invariant-loop-node l = Searched l.rows l.node (state_of l.search)
