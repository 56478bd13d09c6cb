use Rattle.bl_walk.proofs.Picking.{step_or_trap}
use Rattle.bl_walk.proofs.laws.points_step_or_trap.Goals as goal

pub returns : goal.returns
returns c = step_or_trap c.points_are_steps.ensures.sound c.points_are_steps.ensures.steps
