use Rattle.std.proofs.Common.{◌≡◌, drop}
use Rattle.bl_conflict.specs.inner.Failures.{alias_failures, least_by, of_alias}
use Rattle.bl_conflict.proofs.alias.first.Given as goal

abbrev pub invariant-loop-unit : goal.invariant-loop-unit
invariant-loop-unit l = least_by of_alias l.best (alias_failures (drop l.unit-index l.units)) ≡ least_by of_alias l.initial.best (alias_failures l.units)
