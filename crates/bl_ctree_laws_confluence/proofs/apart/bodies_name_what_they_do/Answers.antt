use Rattle.bl_ctree_laws_confluence.proofs.OnApart.Named.{bodies_name_so}
use Rattle.bl_ctree_laws_confluence.proofs.apart.bodies_name_what_they_do.Goals as goal

pub returns : goal.returns
returns c = bodies_name_so
