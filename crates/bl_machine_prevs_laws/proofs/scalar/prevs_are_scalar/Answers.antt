use Rattle.bl_machine_prevs_laws.proofs.OnScalar.Whole.{prevs_are_scalar}
use Rattle.bl_machine_prevs_laws.proofs.scalar.prevs_are_scalar.Goals as goal

pub returns : goal.returns
returns c = prevs_are_scalar
