use Rattle.bl_emit_acts_laws_wellformed.proofs.OnSpelled.Whole.{places}
use Rattle.bl_emit_acts_laws_wellformed.proofs.spelled.places_fit.Goals as goal

pub returns : goal.returns
returns c program = places program.structs program.units program.entry
