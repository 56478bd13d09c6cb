use Rattle.bl_ctree_laws_confluence.proofs.OnApart.Running.{accepted_runs_apart_so}
use Rattle.bl_ctree_laws_confluence.proofs.apart.accepted_programs_run_apart.Goals as goal

pub returns : goal.returns
returns c = accepted_runs_apart_so
