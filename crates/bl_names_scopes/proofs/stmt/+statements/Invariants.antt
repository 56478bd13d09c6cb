use Rattle.std.proofs.Common.{◌≡◌, drop, map}
use Rattle.bl_tree.specs.Reduce.{joined}
use Rattle.bl_names_scopes.specs.inner.Judged.{judged_by}
use Rattle.bl_names_scopes.specs.Marks.{marks_of_arm, marks_of_branch, stmt_marks}
use Rattle.bl_names_scopes.proofs.stmt.+statements.Given as goal

abbrev pub invariant-block-loop-s : goal.invariant-block-loop-s
invariant-block-loop-s l = judged_by l.judge (joined (map stmt_marks (drop l.s-index l.body))) ≡ judged_by l.initial.judge (joined (map stmt_marks l.body))

abbrev pub invariant-arms-loop-arm : goal.invariant-arms-loop-arm
invariant-arms-loop-arm l = judged_by l.judge (joined (map marks_of_arm (drop l.arm-index l.all)))
    ≡ judged_by l.initial.judge (joined (map marks_of_arm l.all))

abbrev pub invariant-branches-loop-branch : goal.invariant-branches-loop-branch
invariant-branches-loop-branch l =
    judged_by l.judge (joined (map marks_of_branch (drop l.branch-index l.all))) ≡ judged_by l.initial.judge (joined (map marks_of_branch l.all))
