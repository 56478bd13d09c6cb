use Rattle.bl_emit_functions_laws_wellformed.proofs.OnFiles.Growing.{grow}
use Rattle.bl_emit_functions_laws_wellformed.proofs.files.chains_grow.Goals as goal

pub returns : goal.returns
returns c program = grow program.structs program.units program.entry
