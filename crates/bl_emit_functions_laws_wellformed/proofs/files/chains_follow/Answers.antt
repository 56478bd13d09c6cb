use Rattle.bl_emit_functions_laws_wellformed.proofs.OnFiles.Chains.{follow}
use Rattle.bl_emit_functions_laws_wellformed.proofs.files.chains_follow.Goals as goal

pub returns : goal.returns
returns c program = follow program.structs program.units
