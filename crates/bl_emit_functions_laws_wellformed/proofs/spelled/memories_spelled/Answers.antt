use Rattle.bl_emit_functions_laws_wellformed.proofs.OnSpelled.Whole.{memories}
use Rattle.bl_emit_functions_laws_wellformed.proofs.spelled.memories_spelled.Goals as goal

pub returns : goal.returns
returns c program = memories program.structs program.units program.entry
