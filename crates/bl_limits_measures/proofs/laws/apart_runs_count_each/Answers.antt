use Rattle.bl_limits_measures.proofs.RunLemmas.{apart_count}
use Rattle.bl_limits_measures.proofs.laws.apart_runs_count_each.Goals as goal

pub returns : goal.returns
returns c = apart_count
