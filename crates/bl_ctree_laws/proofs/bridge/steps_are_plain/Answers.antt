use Rattle.bl_ctree_laws.proofs.Backward.{plain_steps_are_steps}
use Rattle.bl_ctree_laws.proofs.Forward.{steps_are_plain}
use Rattle.bl_ctree_laws.proofs.bridge.steps_are_plain.Goals as goal

pub returns : goal.returns
returns c = record { sound = steps_are_plain; complete = plain_steps_are_steps }
