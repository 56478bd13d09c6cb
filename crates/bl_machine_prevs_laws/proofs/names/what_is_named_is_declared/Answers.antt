use Rattle.bl_machine_prevs_laws.proofs.OnNames.Program.{program_declared}
use Rattle.bl_machine_prevs_laws.proofs.names.what_is_named_is_declared.Goals as goal

pub returns : goal.returns
returns c = program_declared
