use Rattle.std.proofs.Common.{◌≡◌, drop}
use Rattle.bl_tree.specs.Rules.{first_of}
use Rattle.bl_conflict.specs.inner.Failures.{pause_failures}
use Rattle.bl_conflict.proofs.pause.first.Given as goal

abbrev pub invariant-loop-unit : goal.invariant-loop-unit
invariant-loop-unit l = first_of l.best (pause_failures (drop l.unit-index l.units)) ≡ first_of l.initial.best (pause_failures l.units)
