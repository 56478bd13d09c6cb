use Rattle.std.proofs.Common.{◌≡◌, ◌++◌, drop, map}
use Rattle.bl_emit.specs.Activities.{frame_member_told}
use Rattle.bl_emit.specs.Kept.{run_in}
use Rattle.bl_emit.proofs.frames.add_frames.Given as goal

abbrev pub invariant-loop-run : goal.invariant-loop-run
invariant-loop-run l = l.members ++ map (frame_member_told l.earlier) (map run_in (drop l.run-index l.runs)) ≡ l.initial.members
    ++ map (frame_member_told l.earlier) (map run_in l.runs)
