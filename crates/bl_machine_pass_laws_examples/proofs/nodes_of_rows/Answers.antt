use Rattle.bl_machine_pass_laws_examples.proofs.Numbers.{nodes}
use Rattle.bl_machine_pass_laws_examples.proofs.nodes_of_rows.Goals as goal

pub returns : goal.returns
returns c = nodes
