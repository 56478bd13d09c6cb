use Rattle.bl_ctree_laws_traces.proofs.OnReady.Numbering.{orders_give_ranks}
use Rattle.bl_ctree_laws_traces.proofs.ready.orders_give_ranks.Goals as goal

pub returns : goal.returns
returns c = orders_give_ranks c.graphs_stay_within.ensures
