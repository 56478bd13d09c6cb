use Rattle.std.proofs.Common.{◌≡◌, take}
use Rattle.bl_emit.proofs.shown.units_of.Given as goal

abbrev pub invariant-loop-unit : goal.invariant-loop-unit
invariant-loop-unit l = l.copies ≡ take l.unit-index l.units
