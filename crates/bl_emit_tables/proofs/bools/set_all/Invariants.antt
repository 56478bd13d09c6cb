use Rattle.std.proofs.Common.{◌≡◌, drop}
use Rattle.bl_emit_spec.specs.Programs.{set_from}
use Rattle.bl_emit_tables.proofs.bools.set_all.Given as goal

abbrev pub invariant-loop-position : goal.invariant-loop-position
invariant-loop-position l = set_from (drop l.position-index l.positions) 0 l.tests ≡ set_from l.positions 0 l.initial.tests
