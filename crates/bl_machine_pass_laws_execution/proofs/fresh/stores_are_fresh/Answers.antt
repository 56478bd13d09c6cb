use Rattle.bl_machine_pass_laws_execution.proofs.OnFresh.Seeing.{stores_are_fresh}
use Rattle.bl_machine_pass_laws_execution.proofs.fresh.stores_are_fresh.Goals as goal

pub returns : goal.returns
returns c = stores_are_fresh
