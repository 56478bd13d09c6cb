use Rattle.bl_ctree_laws_confluence.proofs.OnApart.Declared.{bodies_declare_so}
use Rattle.bl_ctree_laws_confluence.proofs.apart.bodies_declare_what_they_do.Goals as goal

pub returns : goal.returns
returns c = bodies_declare_so
