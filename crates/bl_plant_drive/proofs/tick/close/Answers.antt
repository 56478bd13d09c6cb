use Rattle.bl_plant_drive.proofs.Ticking.{closes-ended, closes-row, closes-trap}
use Rattle.bl_plant_drive.proofs.tick.close.Goals as goal

pub close_row-requires : goal.close_row-requires
close_row-requires g c = let given = c.requires in (given.0, given.2.inputs)

pub returns-in-Row : goal.returns-in-Row
returns-in-Row g c = λ s runner run.
    closes-row s runner _ _ _ c.args.into.now _ _ _ c.args.answer c.close_row.result c.in-Row.is run (c.close_row.ensures s run.inputs)

pub returns-in-Ended : goal.returns-in-Ended
returns-in-Ended g c = λ s runner run.
    closes-ended s runner _ _ _ c.args.into.now _ _ _ c.args.answer c.close_row-in-Ended.result c.in-Ended.is run
    (c.close_row-in-Ended.ensures s run.inputs)

pub returns-in-Trap : goal.returns-in-Trap
returns-in-Trap g c = λ s runner run.
    closes-trap s runner _ _ c.args.into.now _ _ _ c.args.answer c.record_trap.result c.in-Trap.is run c.record_trap.ensures.ok
    c.record_trap.ensures.err
