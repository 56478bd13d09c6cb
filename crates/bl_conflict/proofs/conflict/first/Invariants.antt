use Rattle.std.proofs.Common.{◌≡◌, drop}
use Rattle.bl_tree.specs.Rules.{first_of}
use Rattle.bl_conflict.specs.inner.Failures.{conflict_failures}
use Rattle.bl_conflict.proofs.conflict.first.Given as goal

abbrev pub invariant-loop-unit : goal.invariant-loop-unit
invariant-loop-unit l = first_of l.best (conflict_failures (drop l.unit-index l.units)) ≡ first_of l.initial.best (conflict_failures l.units)
