use Rattle.std.proofs.Common.{◌≡◌, take}
use Rattle.bl_limits_measures.specs.Units.{greatest_at}
use Rattle.bl_limits_measures.proofs.tables.greatest_at.Given as goal

abbrev pub invariant-loop-position : goal.invariant-loop-position
invariant-loop-position l = l.most ≡ greatest_at l.known (take l.position-index l.positions)
