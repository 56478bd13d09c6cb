use Rattle.std.proofs.Common.{◌≡◌, take}
use Rattle.bl_limits_measures.specs.Saturated.{saturated}
use Rattle.bl_limits_measures.specs.Units.{total_at}
use Rattle.bl_limits_measures.proofs.tables.total_at.Given as goal

abbrev pub invariant-loop-position : goal.invariant-loop-position
invariant-loop-position l = l.sum ≡ saturated (total_at l.known (take l.position-index l.positions))
