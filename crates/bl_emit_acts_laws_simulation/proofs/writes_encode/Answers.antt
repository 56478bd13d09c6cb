use Rattle.bl_emit_acts_laws_simulation.proofs.Whole.{writes}
use Rattle.bl_emit_acts_laws_simulation.proofs.writes_encode.Goals as goal

pub returns : goal.returns
returns c program = writes program.structs program.units program.entry
