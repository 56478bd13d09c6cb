use Rattle.std.proofs.Common.{◌≡◌, drop}
use Rattle.bl_simplify_laws_frames.specs.Reached.{first_frame}
use Rattle.bl_simplify_frames.specs.Told.{as_frames}
use Rattle.bl_simplify_frames.proofs.frames.frame_for.Given as goal

abbrev pub invariant-loop-frame : goal.invariant-loop-frame
invariant-loop-frame l = first_frame l.name (as_frames (drop l.frame-index l.frames)) ≡ first_frame l.name (as_frames l.frames)
