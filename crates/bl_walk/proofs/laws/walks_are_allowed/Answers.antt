use Rattle.bl_walk.proofs.Walking.{walks_allowed, walks_meant}
use Rattle.bl_walk.proofs.laws.walks_are_allowed.Goals as goal

pub returns : goal.returns
returns c = record { allowed = walks_allowed; means = walks_meant }
