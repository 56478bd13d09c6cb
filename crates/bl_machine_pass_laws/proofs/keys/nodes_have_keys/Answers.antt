use Rattle.bl_machine_pass_laws.proofs.OnKeys.{nodes_have_keys}
use Rattle.bl_machine_pass_laws.proofs.keys.nodes_have_keys.Goals as goal

pub returns : goal.returns
returns c = nodes_have_keys
