use Rattle.bl_emit_acts_laws_simulation.proofs.Whole.{places}
use Rattle.bl_emit_acts_laws_simulation.proofs.places_simulate.Goals as goal

pub returns : goal.returns
returns c program = places program.structs program.units program.entry
