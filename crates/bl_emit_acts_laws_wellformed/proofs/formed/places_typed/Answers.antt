use Rattle.bl_emit_acts_laws_wellformed.proofs.OnFormed.Whole.{places}
use Rattle.bl_emit_acts_laws_wellformed.proofs.formed.places_typed.Goals as goal

pub returns : goal.returns
returns c program = places program.structs program.units program.entry
