use Rattle.bl_ctree_laws_traces.proofs.OnTraces.Accepted.{ordered_have_one_trace}
use Rattle.bl_ctree_laws_traces.proofs.traces.ordered_programs_have_one_trace.Goals as goal

pub returns : goal.returns
returns c =
    ordered_have_one_trace c.bounded_programs_have_meanings.ensures.meanings c.unstuck_programs_show_traces.ensures
    c.ordered_programs_are_numbered.ensures c.ordered_programs_are_never_stuck.ensures c.accepted_is_bounded.ensures
    c.accepted_programs_have_at_most_one_trace.ensures
