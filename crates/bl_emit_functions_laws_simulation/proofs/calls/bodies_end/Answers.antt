use Rattle.bl_emit_functions_laws_simulation.proofs.OnCalls.Standing.{end_all}
use Rattle.bl_emit_functions_laws_simulation.proofs.calls.bodies_end.Goals as goal

pub returns : goal.returns
returns c program = end_all program.structs program.units program.entry
