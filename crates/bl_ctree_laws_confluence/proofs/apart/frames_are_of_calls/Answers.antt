use Rattle.bl_ctree_laws_confluence.proofs.OnApart.Frames.{frames_are_of_calls_so}
use Rattle.bl_ctree_laws_confluence.proofs.apart.frames_are_of_calls.Goals as goal

pub returns : goal.returns
returns c = frames_are_of_calls_so
