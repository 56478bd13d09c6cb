use Rattle.bl_cause.proofs.WalkLemmas.{closed_controls, controls_closed}
use Rattle.bl_cause.proofs.laws.control_walks_are_walks.Goals as goal

pub returns : goal.returns
returns c = λ edges walk. (controls_closed edges walk, closed_controls edges walk)
