use Rattle.bl_crun_code.proofs.Files.{named-functions-run}
use Rattle.bl_crun_code.proofs.laws.functions_run.Goals as goal

pub returns : goal.returns
returns c = named-functions-run
