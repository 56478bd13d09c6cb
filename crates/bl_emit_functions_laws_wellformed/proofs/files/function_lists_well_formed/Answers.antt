use Rattle.bl_emit_functions_laws_wellformed.proofs.OnFiles.Walk.{lists}
use Rattle.bl_emit_functions_laws_wellformed.proofs.files.function_lists_well_formed.Goals as goal

pub returns : goal.returns
returns c program =
    lists program.structs program.units program.entry (c.functions_well_formed.ensures program) c.functions_signed.ensures
