use Rattle.bl_ctree_laws_confluence.proofs.OnIndependent.Accepted.{accepted_traces_are_one}
use Rattle.bl_ctree_laws_confluence.proofs.independent.accepted_programs_have_at_most_one_trace.Goals as goal

pub returns : goal.returns
returns c = accepted_traces_are_one c.statements_are_plain.ensures c.traces_are_one.ensures
