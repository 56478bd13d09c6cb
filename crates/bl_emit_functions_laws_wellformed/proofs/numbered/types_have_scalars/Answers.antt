use Rattle.bl_emit_functions_laws_wellformed.proofs.OnNumbered.Whole.{types}
use Rattle.bl_emit_functions_laws_wellformed.proofs.numbered.types_have_scalars.Goals as goal

pub returns : goal.returns
returns c program = types program.structs program.units program.entry
