use Rattle.bl_emit_structs_laws_wellformed.proofs.OnNames.Needed.{earlier_used}
use Rattle.bl_emit_structs_laws_wellformed.proofs.names.uses_earlier.Goals as goal

pub returns : goal.returns
returns c program = earlier_used program.structs program.units program.entry
