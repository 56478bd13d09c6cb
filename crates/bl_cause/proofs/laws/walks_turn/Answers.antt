use Rattle.bl_cause.proofs.WalkLemmas.{turn}
use Rattle.bl_cause.proofs.laws.walks_turn.Goals as goal

pub returns : goal.returns
returns c = λ edges walk closed edge there. turn edges walk closed edge there
