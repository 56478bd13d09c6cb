use Rattle.bl_emit_spec_laws_wellformed.proofs.OnSpelled.Whole.{activities}
use Rattle.bl_emit_spec_laws_wellformed.proofs.spelled.activities_fit.Goals as goal

pub returns : goal.returns
returns c program =
    activities program.structs program.units program.entry (c.expressions_fit.ensures program) (c.places_fit.ensures program)
    (c.acts_fit.ensures program)
