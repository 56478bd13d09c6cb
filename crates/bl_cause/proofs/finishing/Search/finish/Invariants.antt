use Rattle.bl_cause.specs.inner.Orders.{state_of}
use Rattle.bl_cause.proofs.OrderLemmas.{Going, work}
use Rattle.bl_cause.proofs.finishing.Search.finish.Given as goal

abbrev pub invariant-loop-frame : goal.invariant-loop-frame
invariant-loop-frame l = Going l.rows (state_of l.fn.self) (state_of l.self)

abbrev pub decreases-loop-frame : goal.decreases-loop-frame
decreases-loop-frame l = work l.rows (state_of l.self)
