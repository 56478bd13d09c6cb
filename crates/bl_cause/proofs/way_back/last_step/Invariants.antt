use Rattle.std.proofs.Common.{take}
use Rattle.bl_cause.specs.inner.Steps.{Ends}
use Rattle.bl_cause.proofs.way_back.last_step.Given as goal

abbrev pub invariant-loop-k : goal.invariant-loop-k
invariant-loop-k l = Ends l.node (take l.k l.steps) → ⊥
