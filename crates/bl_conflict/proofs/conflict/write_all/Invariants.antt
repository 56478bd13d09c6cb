use Rattle.std.proofs.Common.{◌≡◌, ◌++◌, drop, map}
use Rattle.bl_conflict.specs.inner.Failures.{written}
use Rattle.bl_tree.specs.Static.{static_of}
use Rattle.bl_conflict.proofs.conflict.write_all.Given as goal

abbrev pub invariant-loop-path : goal.invariant-loop-path
invariant-loop-path l = l.writes ++ map (written l.at) (map static_of (drop l.path-index l.outputs)) ≡ l.initial.writes
    ++ map (written l.at) (map static_of l.outputs)
