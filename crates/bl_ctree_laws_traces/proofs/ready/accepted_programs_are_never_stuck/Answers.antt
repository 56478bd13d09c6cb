use Rattle.bl_ctree_laws_traces.proofs.OnReady.Never.{accepted_never_stuck}
use Rattle.bl_ctree_laws_traces.proofs.ready.accepted_programs_are_never_stuck.Goals as goal

pub returns : goal.returns
returns c = accepted_never_stuck c.nodes_are_in_part.ensures c.accepted_trees_fit_graphs.ensures c.accepted_programs_are_orderly.ensures
    c.statements_are_plain.ensures c.typed_calls_stand.ensures c.unsettled_may.ensures c.unsettled_could.ensures
    c.trees_stay_left.ensures.inside c.reached_trees_are_armed.ensures c.answers_are_plain.ensures c.lists_are_plain.ensures.still
