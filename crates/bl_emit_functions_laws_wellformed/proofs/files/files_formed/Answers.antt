use Rattle.bl_emit_functions_laws_wellformed.proofs.OnFiles.Structs.{files}
use Rattle.bl_emit_functions_laws_wellformed.proofs.files.files_formed.Goals as goal

pub returns : goal.returns
returns c program =
    files program.structs program.units program.entry (c.structs_precede.ensures program) (c.function_lists_well_formed.ensures program)
