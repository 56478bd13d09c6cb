use Rattle.std.proofs.Common.{◌≡◌}
use Rattle.bl_emit_spec.specs.Programs.{needed_below, needed_units}
use Rattle.bl_emit_tables.proofs.needed.needed_units.Given as goal

abbrev pub invariant-loop-k : goal.invariant-loop-k
invariant-loop-k l = needed_below l.k l.units l.needed ≡ needed_units l.units l.entry

abbrev pub decreases-loop-k : goal.decreases-loop-k
decreases-loop-k l = l.k
