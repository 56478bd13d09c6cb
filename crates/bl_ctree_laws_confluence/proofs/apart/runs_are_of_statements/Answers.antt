use Rattle.bl_ctree_laws_confluence.proofs.OnApart.Running.{runs_are_of_statements_so}
use Rattle.bl_ctree_laws_confluence.proofs.apart.runs_are_of_statements.Goals as goal

pub returns : goal.returns
returns c = runs_are_of_statements_so
