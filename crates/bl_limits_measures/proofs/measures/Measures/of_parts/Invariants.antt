use Rattle.std.proofs.Common.{take}
use Rattle.bl_limits_measures.specs.Tells.{MeasuresTell}
use Rattle.bl_limits_measures.proofs.measures.Measures.of_parts.Given as goal

abbrev pub invariant-loop-unit : goal.invariant-loop-unit
invariant-loop-unit l = MeasuresTell l.measures l.structs (take l.unit-index l.units)
