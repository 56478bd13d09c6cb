use Rattle.bl_plant_drive.proofs.Lists.{read-again}
use Rattle.bl_plant_drive.proofs.Naming.{among, distinct-all, distinct-begun, distinct-more, twice-here}
use Rattle.bl_plant.specs.declared.log.PlantName.{PlantName}
use Rattle.bl_plant_drive.proofs.names.test_distinct.Goals as goal

pub loop-k-init : goal.loop-k-init
loop-k-init c = distinct-begun (λ (n : PlantName). n.number) c.args.names.now

pub returns-then-is_among : goal.returns-then-is_among
returns-then-is_among c =
    twice-here (λ (n : PlantName). n.number) c.args.names.now c.loop-k.k _ c.loop-k-test.true
    (read-again c.args.names.now c.loop-k.k (record { number = 0 }) c.loop-k-test.true) c.loop-k.invariant
    (among (λ (n : PlantName). n.number) c.args.names.now c.loop-k.k _ c.is_among.result _ c.is_among.ensures c.if-is_among.true)

pub loop-k-preserved : goal.loop-k-preserved
loop-k-preserved c =
    distinct-more (λ (n : PlantName). n.number) c.args.names.now c.loop-k.k _ c.loop-k-test.true
    (read-again c.args.names.now c.loop-k.k (record { number = 0 }) c.loop-k-test.true) c.loop-k.invariant
    (among (λ (n : PlantName). n.number) c.args.names.now c.loop-k.k _ c.is_among.result _ c.is_among.ensures c.if-is_among.false)

pub returns : goal.returns
returns c = distinct-all (λ (n : PlantName). n.number) c.args.names.now c.loop-k.k c.loop-k-test.false c.loop-k.invariant
