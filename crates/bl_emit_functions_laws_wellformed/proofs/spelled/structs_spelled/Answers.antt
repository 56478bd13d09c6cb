use Rattle.bl_emit_functions_laws_wellformed.proofs.OnSpelled.Whole.{structs_all}
use Rattle.bl_emit_functions_laws_wellformed.proofs.spelled.structs_spelled.Goals as goal

pub returns : goal.returns
returns c program = structs_all program.structs program.units program.entry
