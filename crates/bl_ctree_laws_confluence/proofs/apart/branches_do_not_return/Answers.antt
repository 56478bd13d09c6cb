use Rattle.bl_ctree_laws_confluence.proofs.OnApart.Returns.{no_branch_returns_so}
use Rattle.bl_ctree_laws_confluence.proofs.apart.branches_do_not_return.Goals as goal

pub returns : goal.returns
returns c = no_branch_returns_so
