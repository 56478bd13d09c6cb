use Rattle.bl_walk.proofs.Picking.{picks_are_steps}
use Rattle.bl_walk.proofs.laws.picked_lists_are_steps.Goals as goal

pub returns : goal.returns
returns c = picks_are_steps c.points_step_or_trap.ensures
