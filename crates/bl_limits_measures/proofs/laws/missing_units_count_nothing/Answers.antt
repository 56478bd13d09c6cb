use Rattle.bl_limits_measures.proofs.LawLemmas.{missing}
use Rattle.bl_limits_measures.proofs.laws.missing_units_count_nothing.Goals as goal

pub returns : goal.returns
returns c = missing
