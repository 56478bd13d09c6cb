use Rattle.std.proofs.Common.{ap, map}
use Rattle.bl_plant_drive.proofs.Ticking.{first-goes-in, not-begun-in, setting, tick-goes, tick-over, tick-stops}
use Rattle.bl_plant.specs.declared.log.PlantName.{PlantName}
use Rattle.bl_plant_drive.proofs.closed_loop.drive.Goals as goal

pub returns-in_err-seats : goal.returns-in_err-seats
returns-in_err-seats g c =
    not-begun-in c.args.runner.now (map (λ b. (goal.Plant-dyn g (b.vtable, b.value)).shown b.value) c.args.plants.now.items)
    (map (λ b. (goal.Plant-dyn g (b.vtable, b.value)).shown b.value) c.deref.result.now)
    (map (λ (n : PlantName). n.number) c.args.names.now) c.args.ticks c.args.into.now _ c.from_residual.result
    (ap (map (λ b. (goal.Plant-dyn g (b.vtable, b.value)).shown b.value)) c.deref.ensures.value) c.from_residual.ensures.1 c.requires.empty
    c.in_err-seats.ensures.stopped

pub loop-done-init : goal.loop-done-init
loop-done-init g c =
    first-goes-in c.args.runner.now (map (λ b. (goal.Plant-dyn g (b.vtable, b.value)).shown b.value) c.args.plants.now.items)
    (map (λ b. (goal.Plant-dyn g (b.vtable, b.value)).shown b.value) c.deref.result.now)
    (map (λ (n : PlantName). n.number) c.args.names.now) c.args.ticks c.in_ok-seats.seats.items c.args.into.now
    (ap (map (λ b. (goal.Plant-dyn g (b.vtable, b.value)).shown b.value)) c.deref.ensures.value) c.requires.empty c.requires.live
    c.in_ok-seats.ensures.begun

pub returns-in_err-answer : goal.returns-in_err-answer
returns-in_err-answer g c =
    tick-stops
    (setting c.args.runner.now (map (λ b. (goal.Plant-dyn g (b.vtable, b.value)).shown b.value) c.args.plants.now.items)
    (map (λ (n : PlantName). n.number) c.args.names.now) c.args.ticks)
    c.loop-done.done c.drive_tick.new.runner (map (λ b. (goal.Plant-dyn g (b.vtable, b.value)).shown b.value) c.drive_tick.new.plants.items)
    c.drive_tick.new.seats.items c.drive_tick.new.into _ c.from_residual-in_err-answer.result c.from_residual-in_err-answer.ensures.1
    (c.in_err-answer.ensures
    (setting c.args.runner.now (map (λ b. (goal.Plant-dyn g (b.vtable, b.value)).shown b.value) c.args.plants.now.items)
    (map (λ (n : PlantName). n.number) c.args.names.now) c.args.ticks)
    c.loop-done-test.true c.loop-done.invariant)

pub returns-then-not-goes_on : goal.returns-then-not-goes_on
returns-then-not-goes_on g c =
    tick-over _ c.loop-done.done _ _ _ _ c.in_ok-answer.answer c.goes_on.result c.goes_on.ensures c.if-not-goes_on.true
    (c.in_ok-answer.ensures _ c.loop-done-test.true c.loop-done.invariant)

pub loop-done-preserved : goal.loop-done-preserved
loop-done-preserved g c =
    tick-goes _ c.loop-done.done _ _ _ _ c.in_ok-answer.answer c.goes_on.result c.goes_on.ensures c.if-not-goes_on.false
    (c.in_ok-answer.ensures _ c.loop-done-test.true c.loop-done.invariant)
