use Rattle.bl_machine_pass_laws.proofs.OnSame.Leaving.{stays_residual}
use Rattle.bl_machine_pass_laws.proofs.same.stays_residual.Goals as goal

pub returns : goal.returns
returns c = stays_residual
