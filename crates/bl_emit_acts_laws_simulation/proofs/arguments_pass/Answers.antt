use Rattle.bl_emit_acts_laws_simulation.proofs.Passing.{arguments}
use Rattle.bl_emit_acts_laws_simulation.proofs.arguments_pass.Goals as goal

pub returns : goal.returns
returns c program = arguments program.structs program.units program.entry
