use Rattle.bl_emit_functions_laws_simulation.proofs.OnCalls.Handing.{hand_over_all}
use Rattle.bl_emit_functions_laws_simulation.proofs.calls.hands_over.Goals as goal

pub returns : goal.returns
returns c program = hand_over_all program.structs program.units program.entry
