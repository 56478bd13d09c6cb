use Rattle.std.proofs.Common.{take}
use Rattle.bl_limits_measures.proofs.UnitLemmas.{tells_more, tells_next}
use Rattle.bl_limits_measures.proofs.measures.Measures.of_parts.Goals as goal

pub loop-unit-preserved : goal.loop-unit-preserved
loop-unit-preserved c =
    tells_next c.args.structs.now c.args.units.now c.loop-unit.unit-index c.unit-item.result c.add.new.self c.loop-unit-test.true c.unit-item.is
    (tells_more c.args.structs.now (take c.loop-unit.unit-index c.args.units.now) c.unit-item.result c.loop-unit.measures c.add.new.self c.loop-unit.invariant
    c.in_ok-add.ensures.sizes c.in_ok-add.ensures.nestings c.in_ok-add.ensures.variables c.in_ok-add.ensures.statements
    c.in_ok-add.ensures.instances c.in_ok-add.ensures.chains c.in_ok-add.ensures.cells)
