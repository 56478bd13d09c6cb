use Rattle.bl_walk.proofs.Walking.{begins_no_more, shows_no_more}
use Rattle.bl_walk.proofs.laws.rows_bound_runs.Goals as goal

pub returns : goal.returns
returns c = record { rows = shows_no_more; ticks = begins_no_more }
