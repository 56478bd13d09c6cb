use Rattle.bl_machine_pass_laws_execution.proofs.OnFresh.Asking.{trees_ask}
use Rattle.bl_machine_pass_laws_execution.proofs.fresh.trees_ask.Goals as goal

pub returns : goal.returns
returns c = trees_ask
