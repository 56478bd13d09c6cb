use Rattle.bl_ctree_laws.proofs.Leaving.{blocks_are_left, steps_keep_left, waking_keeps_left}
use Rattle.bl_ctree_laws.proofs.residual.bodies_stay_residual.Goals as goal

pub returns : goal.returns
returns c = record { begins = blocks_are_left; steps = steps_keep_left; waking = waking_keeps_left }
