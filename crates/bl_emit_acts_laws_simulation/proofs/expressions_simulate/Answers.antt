use Rattle.bl_emit_acts_laws_simulation.proofs.Whole.{expressions}
use Rattle.bl_emit_acts_laws_simulation.proofs.expressions_simulate.Goals as goal

pub returns : goal.returns
returns c program = expressions program.structs program.units program.entry
