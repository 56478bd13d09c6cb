use Rattle.bl_ctree_laws_confluence.proofs.OnApart.Running.{branches_run_apart_so}
use Rattle.bl_ctree_laws_confluence.proofs.apart.branches_run_apart.Goals as goal

pub returns : goal.returns
returns c = branches_run_apart_so
