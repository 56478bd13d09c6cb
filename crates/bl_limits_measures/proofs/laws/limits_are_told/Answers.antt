use Rattle.bl_limits_measures.proofs.LawLemmas.{limits_told}
use Rattle.bl_limits_measures.proofs.laws.limits_are_told.Goals as goal

pub returns : goal.returns
returns c = limits_told
