use Rattle.std.proofs.Common.{◌≡◌, drop, map}
use Rattle.bl_tree.specs.Reduce.{joined}
use Rattle.bl_names_scopes.specs.inner.Judged.{judged_by}
use Rattle.bl_names_scopes.specs.Marks.{expr_marks, marks_of_part}
use Rattle.bl_names_scopes.proofs.expr.+expressions.Given as goal

abbrev pub invariant-exprs-loop-e : goal.invariant-exprs-loop-e
invariant-exprs-loop-e l = judged_by l.judge (joined (map expr_marks (drop l.e-index l.all))) ≡ judged_by l.initial.judge (joined (map expr_marks l.all))

abbrev pub invariant-parts-loop-one : goal.invariant-parts-loop-one
invariant-parts-loop-one l =
    judged_by l.judge (joined (map marks_of_part (drop l.one-index l.all))) ≡ judged_by l.initial.judge (joined (map marks_of_part l.all))
