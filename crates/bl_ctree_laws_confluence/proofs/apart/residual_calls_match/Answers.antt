use Rattle.bl_ctree_laws_confluence.proofs.OnApart.Outputs.{left_calls_stand_so}
use Rattle.bl_ctree_laws_confluence.proofs.apart.residual_calls_match.Goals as goal

pub returns : goal.returns
returns c = left_calls_stand_so
