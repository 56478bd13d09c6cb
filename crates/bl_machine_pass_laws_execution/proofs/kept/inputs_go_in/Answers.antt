use Rattle.bl_machine_pass_laws_execution.proofs.OnKept.Copying.{inputs_go_in}
use Rattle.bl_machine_pass_laws_execution.proofs.kept.inputs_go_in.Goals as goal

pub returns : goal.returns
returns c = inputs_go_in
