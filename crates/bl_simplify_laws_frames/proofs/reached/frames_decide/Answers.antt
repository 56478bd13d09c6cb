use Rattle.bl_simplify_laws_frames.proofs.OnFunctions.{blocks-decide-in, functions-decide-in}
use Rattle.bl_simplify_laws_frames.proofs.reached.frames_decide.Goals as goal

pub returns : goal.returns
returns c = record { blocks = blocks-decide-in; functions = functions-decide-in }
