use Rattle.bl_emit_acts_laws_simulation.proofs.Frames.{frame_apart}
use Rattle.bl_emit_acts_laws_simulation.proofs.frames_apart.Goals as goal

pub returns : goal.returns
returns c = frame_apart
