use Rattle.std.proofs.Common.{◌≡◌, drop}
use Rattle.bl_types.specs.Units.{entry_among}
use Rattle.bl_types.proofs.unit.entry.Given as goal

abbrev pub invariant-loop-k : goal.invariant-loop-k
invariant-loop-k l = entry_among (drop l.k l.units) l.k ≡ entry_among l.units 0
