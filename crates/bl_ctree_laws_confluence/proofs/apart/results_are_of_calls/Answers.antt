use Rattle.bl_ctree_laws_confluence.proofs.OnApart.Frames.{results_are_of_calls_so}
use Rattle.bl_ctree_laws_confluence.proofs.apart.results_are_of_calls.Goals as goal

pub returns : goal.returns
returns c = results_are_of_calls_so
