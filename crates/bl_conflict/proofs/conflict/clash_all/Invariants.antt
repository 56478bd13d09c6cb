use Rattle.std.proofs.Common.{◌≡◌, drop, map}
use Rattle.bl_tree.specs.Reduce.{joined}
use Rattle.bl_tree.specs.Rules.{first_of}
use Rattle.bl_conflict.specs.inner.Failures.{clashes_with}
use Rattle.bl_conflict.proofs.conflict.clash_all.Given as goal

abbrev pub invariant-loop-second : goal.invariant-loop-second
invariant-loop-second l = first_of l.best (joined (map (clashes_with l.vars l.earlier) (drop l.second-index l.writes)))
    ≡ first_of l.initial.best (joined (map (clashes_with l.vars l.earlier) l.writes))
