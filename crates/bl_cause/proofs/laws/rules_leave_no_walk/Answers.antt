use Rattle.bl_cause.proofs.WalkLemmas.{never_twice_never_cycle}
use Rattle.bl_cause.proofs.laws.rules_leave_no_walk.Goals as goal

pub returns : goal.returns
returns c = never_twice_never_cycle
