use Rattle.bl_ctree_laws_traces.proofs.OnTraces.Accepted.{ordered_are_numbered}
use Rattle.bl_ctree_laws_traces.proofs.traces.ordered_programs_are_numbered.Goals as goal

pub returns : goal.returns
returns c = ordered_are_numbered c.orders_give_ranks.ensures c.accepted_programs_are_orderly.ensures
