use Rattle.bl_eval_laws.proofs.OnLocal.Acting.{acts_are_local}
use Rattle.bl_eval_laws.proofs.local.acts_are_local.Goals as goal

pub returns : goal.returns
returns c = acts_are_local
