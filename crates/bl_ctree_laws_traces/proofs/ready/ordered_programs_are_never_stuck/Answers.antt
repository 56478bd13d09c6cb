use Rattle.bl_ctree_laws_traces.proofs.OnReady.Numbering.{ordered_never_stuck}
use Rattle.bl_ctree_laws_traces.proofs.ready.ordered_programs_are_never_stuck.Goals as goal

pub returns : goal.returns
returns c = ordered_never_stuck c.orders_give_ranks.ensures c.accepted_programs_are_orderly.ensures c.accepted_programs_are_never_stuck.ensures
