use Rattle.bl_machine_laws.proofs.OnRests.Whole.{activities_rest}
use Rattle.bl_machine_laws.proofs.rests.activities_rest.Goals as goal

pub returns : goal.returns
returns c = activities_rest c.endings_agree.ensures.loops
