use Rattle.bl_emit_functions_laws_wellformed.proofs.OnSpelled.Whole.{acts}
use Rattle.bl_emit_functions_laws_wellformed.proofs.spelled.acts_fit.Goals as goal

pub returns : goal.returns
returns c program =
    acts program.structs program.units program.entry (c.expressions_fit.ensures program) (c.places_fit.ensures program)
