use Rattle.std.proofs.Common.{◌≡◌, drop}
use Rattle.bl_conflict.specs.inner.Failures.{instant_failures, least_by, of_loop}
use Rattle.bl_conflict.proofs.instant.first.Given as goal

abbrev pub invariant-loop-unit : goal.invariant-loop-unit
invariant-loop-unit l = least_by of_loop l.best (instant_failures (drop l.unit-index l.units)) ≡ least_by of_loop l.initial.best (instant_failures l.units)
