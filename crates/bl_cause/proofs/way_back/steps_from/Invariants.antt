use Rattle.std.proofs.Common.{◌+◌, ◌-◌, length}
use Rattle.bl_cause.specs.inner.Lists.{unseen}
use Rattle.bl_cause.proofs.StepLemmas.{Under}
use Rattle.bl_cause.proofs.way_back.steps_from.Given as goal

abbrev pub invariant-loop-at : goal.invariant-loop-at
invariant-loop-at l = Under l.rows l.fn.first l.reached l.at

abbrev pub decreases-loop-at : goal.decreases-loop-at
decreases-loop-at l = unseen l.reached.seen + (length l.reached.steps - l.at)
