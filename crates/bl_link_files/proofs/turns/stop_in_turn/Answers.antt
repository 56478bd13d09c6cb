-- One of the texts isn't good, or all are.
use Rattle.bl_link_files.proofs.Judging.{all_good, turn_stops}
use Rattle.bl_link_files.proofs.turns.stop_in_turn.Goals as goal

pub returns-in-Ok : goal.returns-in-Ok
returns-in-Ok c =
    all_good c.args.count c.in-Ok.judged.count c.args.texts.now c.in-Ok.judged.texts c.in-Ok.judged.faces c.in-Ok.ensures.count c.in-Ok.ensures.texts
    c.are_good.ensures

pub returns-in-Err : goal.returns-in-Err
returns-in-Err c = turn_stops c.args.count c.args.texts.now c.in-Err.fault c.in-Err.ensures.fault
