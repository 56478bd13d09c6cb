use Rattle.bl_ctree_laws_confluence.proofs.OnDeeds.Homes.{homes_are_apart_so}
use Rattle.bl_ctree_laws_confluence.proofs.deeds.homes_are_apart.Goals as goal

pub returns : goal.returns
returns c = homes_are_apart_so
