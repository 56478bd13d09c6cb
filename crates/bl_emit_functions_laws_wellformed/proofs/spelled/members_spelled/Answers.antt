use Rattle.bl_emit_functions_laws_wellformed.proofs.OnSpelled.Whole.{members}
use Rattle.bl_emit_functions_laws_wellformed.proofs.spelled.members_spelled.Goals as goal

pub returns : goal.returns
returns c program = members program.structs program.units program.entry
