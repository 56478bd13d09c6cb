use Rattle.bl_emit_functions_laws_wellformed.proofs.OnFormed.Memories.{memories}
use Rattle.bl_emit_functions_laws_wellformed.proofs.formed.memories_hold.Goals as goal

pub returns : goal.returns
returns c program = memories program.structs program.units
