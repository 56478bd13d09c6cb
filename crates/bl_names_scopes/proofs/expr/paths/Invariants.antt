use Rattle.std.proofs.Common.{◌≡◌, drop, map}
use Rattle.bl_tree.specs.Reduce.{joined}
use Rattle.bl_names_scopes.specs.inner.Judged.{judged_by}
use Rattle.bl_names_scopes.specs.Marks.{path_marks}
use Rattle.bl_names_scopes.proofs.expr.paths.Given as goal

abbrev pub invariant-loop-one : goal.invariant-loop-one
invariant-loop-one l = judged_by l.judge (joined (map path_marks (drop l.one-index l.all))) ≡ judged_by l.initial.judge (joined (map path_marks l.all))
