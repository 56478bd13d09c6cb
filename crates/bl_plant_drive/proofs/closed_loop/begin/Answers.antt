use Rattle.bl_plant_drive.proofs.Ticking.{has-begun, memory-stops, named-stops, width-stops}
use Rattle.bl_plant_drive.proofs.closed_loop.begin.Goals as goal

pub returns-in_err-test_names-clause-stopped : goal.returns-in_err-test_names-clause-stopped
returns-in_err-test_names-clause-stopped g c =
    named-stops c.args.runner.now _ _ _ c.from_residual.result c.from_residual.ensures.1 c.in_err-test_names.ensures

pub returns-in_err-wanted-clause-stopped : goal.returns-in_err-wanted-clause-stopped
returns-in_err-wanted-clause-stopped g c =
    memory-stops c.args.runner.now _ _ c.from_residual-in_err-wanted.result c.from_residual-in_err-wanted.ensures.1 c.in_ok-test_names.ensures.0
    c.in_ok-test_names.ensures.1

pub returns-in_err-test_width-clause-stopped : goal.returns-in_err-test_width-clause-stopped
returns-in_err-test_width-clause-stopped g c =
    width-stops c.args.runner.now _ _ c.in_ok-wanted.wanted _ c.from_residual-in_err-test_width.result c.from_residual-in_err-test_width.ensures.1
    c.in_ok-test_names.ensures.0 c.in_ok-test_names.ensures.1 c.in_ok-wanted.ensures.count c.in_err-test_width.ensures

pub returns-in_err-seats-clause-stopped : goal.returns-in_err-seats-clause-stopped
returns-in_err-seats-clause-stopped g c =
    memory-stops c.args.runner.now _ _ c.from_residual-in_err-seats.result c.from_residual-in_err-seats.ensures.1 c.in_ok-test_names.ensures.0
    c.in_ok-test_names.ensures.1

pub returns-clause-begun : goal.returns-clause-begun
returns-clause-begun g c =
    has-begun c.args.runner.now _ _ c.in_ok-wanted.wanted c.in_ok-seats.seats.items c.in_ok-test_names.ensures.0 c.in_ok-test_names.ensures.1
    c.in_ok-wanted.ensures.count c.in_ok-wanted.ensures.few c.in_ok-test_width.ensures c.in_ok-seats.ensures
