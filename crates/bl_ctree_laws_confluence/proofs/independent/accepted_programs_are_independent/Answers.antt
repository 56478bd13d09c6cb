use Rattle.bl_ctree_laws_confluence.proofs.OnIndependent.Accepted.{accepted_is_independent}
use Rattle.bl_ctree_laws_confluence.proofs.independent.accepted_programs_are_independent.Goals as goal

pub returns : goal.returns
returns c = accepted_is_independent c.statements_are_plain.ensures
