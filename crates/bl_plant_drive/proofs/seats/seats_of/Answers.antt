use Rattle.std.proofs.Common.{◌∙◌}
use Rattle.bl_plant_drive.proofs.Lists.{read-again}
use Rattle.bl_plant_drive.proofs.Starting.{seats-all, seats-more}
use Rattle.bl_plant_drive.proofs.seats.seats_of.Goals as goal

pub loop-k-preserved : goal.loop-k-preserved
loop-k-preserved g c =
    c.in-Ok.ensures.items
    ∙ seats-more _ _ c.args.names.now c.loop-k.k _ c.loop-k.seats.items c.in_ok-seat.seat c.loop-k-test.true
    (read-again c.args.names.now c.loop-k.k (record { number = 0 }) c.loop-k-test.true) c.loop-k.invariant c.in_ok-seat.ensures

pub returns : goal.returns
returns g c = seats-all _ _ c.args.names.now c.loop-k.k c.loop-k.seats.items c.loop-k-test.false c.loop-k.invariant
