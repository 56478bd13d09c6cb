use Rattle.bl_ctree_laws_confluence.proofs.OnApart.Owned.{deeds_are_of_bodies_so}
use Rattle.bl_ctree_laws_confluence.proofs.apart.deeds_are_of_bodies.Goals as goal

pub returns : goal.returns
returns c = deeds_are_of_bodies_so
