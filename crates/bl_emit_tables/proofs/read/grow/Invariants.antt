use Rattle.std.proofs.Common.{◌≡◌, ◌-◌, suc, false, length}
use Rattle.bl_emit_tables.specs.Sizes.{grown}
use Rattle.bl_emit_tables.proofs.read.grow.Given as goal

abbrev pub invariant-loop-tests : goal.invariant-loop-tests
invariant-loop-tests l = grown false (suc l.at) l.tests ≡ grown false (suc l.at) l.initial.tests

abbrev pub decreases-loop-tests : goal.decreases-loop-tests
decreases-loop-tests l = suc l.at - length l.tests
