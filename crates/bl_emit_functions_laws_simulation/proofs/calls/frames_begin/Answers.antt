use Rattle.bl_emit_functions_laws_simulation.proofs.OnCalls.Frame.{begin_all}
use Rattle.bl_emit_functions_laws_simulation.proofs.calls.frames_begin.Goals as goal

pub returns : goal.returns
returns c program = begin_all program.structs program.units program.entry
