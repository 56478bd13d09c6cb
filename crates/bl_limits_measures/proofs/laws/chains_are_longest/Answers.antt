use Rattle.bl_limits_measures.proofs.LawLemmas.{no_longer, some_chain}
use Rattle.bl_limits_measures.proofs.laws.chains_are_longest.Goals as goal

pub returns-clause-longer : goal.returns-clause-longer
returns-clause-longer c = no_longer

pub returns-clause-as_long : goal.returns-clause-as_long
returns-clause-as_long c = some_chain
