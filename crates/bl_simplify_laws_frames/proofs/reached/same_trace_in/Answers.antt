use Rattle.bl_simplify_laws_frames.proofs.OnFunctions.{functions-decide-in}
use Rattle.bl_simplify_laws_frames.proofs.OnTraces.{same-trace-in}
use Rattle.bl_simplify_laws_frames.proofs.reached.same_trace_in.Goals as goal

pub returns : goal.returns
returns c = same-trace-in functions-decide-in
