use Rattle.bl_emit_functions_laws_wellformed.proofs.OnFiles.Structs.{precede}
use Rattle.bl_emit_functions_laws_wellformed.proofs.files.structs_precede.Goals as goal

pub returns : goal.returns
returns c program =
    precede program.structs program.units program.entry (c.structs_well_formed.ensures program)
    (c.structs_there.ensures program) (c.memories_hold.ensures program)
