use Rattle.bl_emit_functions_laws_simulation.proofs.OnCalls.Kept.{keep}
use Rattle.bl_emit_functions_laws_simulation.proofs.calls.calls_keep.Goals as goal

pub returns : goal.returns
returns c = keep
