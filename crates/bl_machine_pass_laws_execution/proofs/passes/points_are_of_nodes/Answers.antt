use Rattle.bl_machine_pass_laws_execution.proofs.OnPasses.Points.{points_are_of_nodes}
use Rattle.bl_machine_pass_laws_execution.proofs.passes.points_are_of_nodes.Goals as goal

pub returns : goal.returns
returns c w i t d a n t' point = points_are_of_nodes point
