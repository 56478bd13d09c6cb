use Rattle.bl_ctree_laws_confluence.proofs.OnApart.Forks.{branches_keep_apart_so}
use Rattle.bl_ctree_laws_confluence.proofs.apart.branches_keep_apart.Goals as goal

pub returns : goal.returns
returns c = branches_keep_apart_so
