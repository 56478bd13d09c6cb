use Rattle.std.proofs.Common.{[], take}
use Rattle.bl_effects.specs.inner.Gathered.{TableRecords}
use Rattle.bl_tree.specs.Within.{StandsInUnits}
use Rattle.bl_effects.proofs.table.Effects.of.Given as goal

abbrev pub invariant-loop-unit : goal.invariant-loop-unit
invariant-loop-unit l = TableRecords (StandsInUnits (take l.unit-index l.unit-items)) [] l.effects
