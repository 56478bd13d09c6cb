use Rattle.bl_ctree_laws_confluence.proofs.OnApart.Parted.{apart_is_two_branches_so}
use Rattle.bl_ctree_laws_confluence.proofs.apart.apart_is_two_branches.Goals as goal

pub returns : goal.returns
returns c = apart_is_two_branches_so
