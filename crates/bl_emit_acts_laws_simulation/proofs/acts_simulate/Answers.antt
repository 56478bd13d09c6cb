use Rattle.bl_emit_acts_laws_simulation.proofs.WholeActs.{acts}
use Rattle.bl_emit_acts_laws_simulation.proofs.acts_simulate.Goals as goal

pub returns : goal.returns
returns c program = acts program.structs program.units program.entry
