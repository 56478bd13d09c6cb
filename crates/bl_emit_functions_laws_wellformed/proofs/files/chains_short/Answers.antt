use Rattle.bl_emit_functions_laws_wellformed.proofs.OnFiles.Growing.{short}
use Rattle.bl_emit_functions_laws_wellformed.proofs.files.chains_short.Goals as goal

pub returns : goal.returns
returns c program = short program.structs program.units program.entry
