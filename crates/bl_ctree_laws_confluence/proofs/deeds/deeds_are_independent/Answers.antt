use Rattle.bl_ctree_laws_confluence.proofs.OnDeeds.Plans.{deeds_are_independent_so}
use Rattle.bl_ctree_laws_confluence.proofs.deeds.deeds_are_independent.Goals as goal

pub returns : goal.returns
returns c = deeds_are_independent_so
