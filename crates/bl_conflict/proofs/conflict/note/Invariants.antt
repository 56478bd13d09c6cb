use Rattle.std.proofs.Common.{List, take}
use Rattle.bl_effects.specs.declared.marked.Marked.{Marked}
use Rattle.bl_conflict.specs.inner.Roots.{Knows}
use Rattle.bl_conflict.proofs.conflict.note.Given as goal

abbrev pub invariant-loop-write : goal.invariant-loop-write
invariant-loop-write l = Knows l.touched (take l.write-index l.writes)
    × ((earlier : List Marked) → Knows l.initial.touched earlier → Knows l.touched earlier)
