use Rattle.bl_emit_functions_laws_wellformed.proofs.OnFormed.Whole.{bodies}
use Rattle.bl_emit_functions_laws_wellformed.proofs.formed.bodies_well_formed.Goals as goal

pub returns : goal.returns
returns c program = bodies program.structs program.units program.entry
