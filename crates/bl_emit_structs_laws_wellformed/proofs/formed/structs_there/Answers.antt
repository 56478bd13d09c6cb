use Rattle.bl_emit_structs_laws_wellformed.proofs.OnFormed.Whole as whole
use Rattle.bl_emit_structs_laws_wellformed.proofs.formed.structs_there.Goals as goal

pub returns : goal.returns
returns c program = whole.structs_there program.structs program.units program.entry (c.types_apart.ensures program)
