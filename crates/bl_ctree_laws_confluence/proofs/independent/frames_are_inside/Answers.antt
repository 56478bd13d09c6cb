use Rattle.bl_ctree_laws_confluence.proofs.OnIndependent.Inside.{frames_are_inside_so}
use Rattle.bl_ctree_laws_confluence.proofs.independent.frames_are_inside.Goals as goal

pub returns : goal.returns
returns c = frames_are_inside_so
