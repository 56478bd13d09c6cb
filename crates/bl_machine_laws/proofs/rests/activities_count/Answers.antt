use Rattle.bl_machine_laws.proofs.OnRests.Whole.{activities_count}
use Rattle.bl_machine_laws.proofs.rests.activities_count.Goals as goal

pub returns : goal.returns
returns c = activities_count c.activities_rest.ensures
