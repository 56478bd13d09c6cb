use Rattle.bl_emit_functions_laws_wellformed.proofs.OnSpelled.Whole.{types}
use Rattle.bl_emit_functions_laws_wellformed.proofs.spelled.types_spelled.Goals as goal

pub returns : goal.returns
returns c program = types program.structs program.units program.entry
