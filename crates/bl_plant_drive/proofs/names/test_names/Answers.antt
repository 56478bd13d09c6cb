use Rattle.bl_plant_drive.proofs.Naming.{both-named, meant-fails}
use Rattle.bl_plant_drive.proofs.names.test_names.Goals as goal

pub returns-in_err-test_meant : goal.returns-in_err-test_meant
returns-in_err-test_meant g c = meant-fails _ _ _ c.from_residual.result c.from_residual.ensures.1 c.in_err-test_meant.ensures

pub returns : goal.returns
returns g c = both-named _ _ c.test_distinct.result c.in_ok-test_meant.ensures c.test_distinct.ensures
