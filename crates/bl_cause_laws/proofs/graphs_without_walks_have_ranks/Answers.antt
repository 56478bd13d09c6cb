use Rattle.bl_cause_laws.proofs.Ranking.{unwalked_have_ranks}
use Rattle.bl_cause_laws.proofs.graphs_without_walks_have_ranks.Goals as goal

pub returns : goal.returns
returns c = unwalked_have_ranks
