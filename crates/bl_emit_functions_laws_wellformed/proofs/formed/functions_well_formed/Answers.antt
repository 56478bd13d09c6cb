use Rattle.bl_emit_functions_laws_wellformed.proofs.OnFormed.Whole.{functions}
use Rattle.bl_emit_functions_laws_wellformed.proofs.formed.functions_well_formed.Goals as goal

pub returns : goal.returns
returns c program = functions program.structs program.units program.entry
