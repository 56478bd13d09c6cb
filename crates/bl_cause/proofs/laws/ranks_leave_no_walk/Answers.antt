use Rattle.bl_cause.proofs.WalkLemmas.{ranks_leave_no_walk}
use Rattle.bl_cause.proofs.laws.ranks_leave_no_walk.Goals as goal

pub returns : goal.returns
returns c = λ edges ranks rise walk closed. ranks_leave_no_walk edges ranks rise walk closed
