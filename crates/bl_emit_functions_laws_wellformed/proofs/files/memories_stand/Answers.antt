use Rattle.bl_emit_functions_laws_wellformed.proofs.OnFiles.Memories.{memories}
use Rattle.bl_emit_functions_laws_wellformed.proofs.files.memories_stand.Goals as goal

pub returns : goal.returns
returns c program = memories program.structs program.units program.entry (c.memories_hold.ensures program)
