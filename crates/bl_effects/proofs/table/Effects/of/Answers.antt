use Rattle.std.proofs.Common.{[], take, subst, sym}
use Rattle.bl_effects.specs.inner.Gathered.{TableRecords}
use Rattle.bl_tree.specs.Within.{PlacesDecide, StandsInUnits}
use Rattle.bl_effects.specs.Table.{TableTellsEffects}
use Rattle.bl_effects.proofs.ProgramLemmas.{told_all, units_none, units_step}
use Rattle.bl_effects.proofs.table.Effects.of.Goals as goal

pub loop-unit-init : goal.loop-unit-init
loop-unit-init c =
    subst (λ effects. TableRecords (StandsInUnits (take 0 c.deref-unit-items.result.now)) [] effects) (sym c.new-effects.ensures)
    (units_none c.deref-unit-items.result.now)

pub loop-unit-preserved : goal.loop-unit-preserved
loop-unit-preserved c =
    units_step c.deref-unit-items.result.now c.loop-unit.unit-index c.unit-item.result c.deref.result.now c.loop-unit-test.true c.unit-item.is c.deref.ensures
    [] c.loop-unit.effects c.block.new.table c.loop-unit.invariant c.in_ok-block.ensures.gathers.records

pub returns : goal.returns
returns c =
    subst (TableTellsEffects c.loop-unit.effects) c.deref-unit-items.ensures
    (told_all c.deref-unit-items.result.now c.loop-unit.unit-index c.loop-unit.effects c.loop-unit-test.false c.loop-unit.invariant
    (subst PlacesDecide (sym c.deref-unit-items.ensures) c.args.program.now.well_typed.places_decide))
