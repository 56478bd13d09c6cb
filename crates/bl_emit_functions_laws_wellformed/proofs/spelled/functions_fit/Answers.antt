use Rattle.bl_emit_functions_laws_wellformed.proofs.OnSpelled.Whole.{functions}
use Rattle.bl_emit_functions_laws_wellformed.proofs.spelled.functions_fit.Goals as goal

pub returns : goal.returns
returns c program =
    functions program.structs program.units program.entry (c.expressions_fit.ensures program) (c.places_fit.ensures program)
