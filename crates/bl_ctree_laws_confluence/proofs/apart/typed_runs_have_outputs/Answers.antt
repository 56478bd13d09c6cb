use Rattle.bl_ctree_laws_confluence.proofs.OnApart.Outputs.{typed_runs_have_outputs_so}
use Rattle.bl_ctree_laws_confluence.proofs.apart.typed_runs_have_outputs.Goals as goal

pub returns : goal.returns
returns c = typed_runs_have_outputs_so
