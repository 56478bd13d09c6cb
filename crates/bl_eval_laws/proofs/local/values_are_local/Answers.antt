use Rattle.bl_eval_laws.proofs.OnLocal.Locality.{paths_are_local, values_are_local_too}
use Rattle.bl_eval_laws.proofs.local.values_are_local.Goals as goal

pub returns : goal.returns
returns c = record { values = values_are_local_too; paths = paths_are_local }
