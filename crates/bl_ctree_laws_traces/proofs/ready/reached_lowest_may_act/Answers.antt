use Rattle.bl_ctree_laws_traces.proofs.OnReady.Never.{reached_lowest}
use Rattle.bl_ctree_laws_traces.proofs.ready.reached_lowest_may_act.Goals as goal

pub returns : goal.returns
returns c = reached_lowest c.nodes_are_in_part.ensures c.accepted_trees_fit_graphs.ensures c.accepted_programs_are_orderly.ensures
    c.statements_are_plain.ensures c.typed_calls_stand.ensures c.lowest_may_act.ensures
