use Rattle.bl_ctree_laws_confluence.proofs.OnIndependent.Accepted.{two_are_independent_so}
use Rattle.bl_ctree_laws_confluence.proofs.independent.two_branches_are_independent.Goals as goal

pub returns : goal.returns
returns c = two_are_independent_so
