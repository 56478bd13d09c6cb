use Rattle.bl_ctree_laws_confluence.proofs.OnIndependent.Sparing.{sides_spare_so}
use Rattle.bl_ctree_laws_confluence.proofs.independent.sides_spare.Goals as goal

pub returns : goal.returns
returns c = sides_spare_so
