use Rattle.bl_ctree_laws_confluence.proofs.OnDeeds.Accepted.{accepted_is_orderly}
use Rattle.bl_ctree_laws_confluence.proofs.deeds.accepted_programs_are_orderly.Goals as goal

pub returns : goal.returns
returns c = accepted_is_orderly
