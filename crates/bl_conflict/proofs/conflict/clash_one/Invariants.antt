use Rattle.std.proofs.Common.{◌≡◌, drop}
use Rattle.bl_tree.specs.Rules.{first_of}
use Rattle.bl_conflict.specs.inner.Failures.{clashes_at}
use Rattle.bl_conflict.proofs.conflict.clash_one.Given as goal

abbrev pub invariant-loop-first : goal.invariant-loop-first
invariant-loop-first l = first_of l.best (clashes_at l.declared (drop l.first-index l.earlier) l.second)
    ≡ first_of l.initial.best (clashes_at l.declared l.earlier l.second)
