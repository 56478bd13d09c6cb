use Rattle.std.proofs.Common.{◌≡◌, drop}
use Rattle.bl_types.specs.Failures.{noted}
use Rattle.bl_types.specs.Units.{entries}
use Rattle.bl_types.proofs.unit.entries.Given as goal

abbrev pub invariant-loop-unit : goal.invariant-loop-unit
invariant-loop-unit l = noted l.notes (entries l.seen l.end (drop l.unit-index l.units)) ≡ noted l.initial.notes (entries l.elsewhere l.end l.units)
