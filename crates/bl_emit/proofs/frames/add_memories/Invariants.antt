use Rattle.std.proofs.Common.{◌≡◌, ◌++◌, drop, map}
use Rattle.bl_tree.specs.Reduce.{joined}
use Rattle.bl_emit.specs.Activities.{memory_member_told}
use Rattle.bl_emit.specs.Kept.{run_in}
use Rattle.bl_emit.proofs.frames.add_memories.Given as goal

abbrev pub invariant-loop-run : goal.invariant-loop-run
invariant-loop-run l =
    l.members ++ joined (map (memory_member_told l.earlier l.remember) (map run_in (drop l.run-index l.runs))) ≡ l.initial.members
    ++ joined (map (memory_member_told l.earlier l.remember) (map run_in l.runs))
