use Rattle.bl_walk.proofs.Walking.{closed_stay}
use Rattle.bl_walk.proofs.laws.closed_runs_stay_closed.Goals as goal

pub returns : goal.returns
returns c = closed_stay
