use Rattle.std.proofs.Common.{◌≡◌, ◌++◌, ap, sym, ◌∙◌}
use Rattle.bl_tree.proofs.Basics.{drop_next}
use Rattle.bl_parse_tree.specs.declared.stmt.RawArm.{out-RawArm}
use Rattle.bl_names_scopes.specs.inner.Judged.{judged_by}
use Rattle.bl_names_scopes.specs.declared.kind.Wanted.TheVariants as wanted
use Rattle.bl_names_scopes.specs.Marks.{expr_marks, marks_of_arm, marks_of_branch, stmt_marks, target_marks}
use Rattle.bl_names_scopes.proofs.WalkLemmas.{arm_out, arms_marks, assign_out, body_marks, branch_out, if_out, judged-next, on_ok, then_is, until_out}
use Rattle.bl_names_scopes.proofs.WalkLemmas.{when_out, while_out}
use Rattle.bl_names_scopes.proofs.stmt.+statements.Goals as goal

pub block-loop-s-preserved : goal.block-loop-s-preserved
block-loop-s-preserved t c =
    rw c.in_ok-statement.ensures
    (judged-next stmt_marks _ _ c.s-item.result c.loop-s.judge _ (drop_next c.args.body.now c.loop-s.s-index c.s-item.result c.loop-s-test.true c.s-item.is)
    c.loop-s.invariant)

pub arms-loop-arm-preserved : goal.arms-loop-arm-preserved
arms-loop-arm-preserved t c =
    let arm = c.arm-item.result in
    let step : c.scope.new.judge ≡ judged_by c.loop-arm.judge (marks_of_arm arm) =
    then_is c.loop-arm.judge c.expr.new.judge c.scope.new.judge (expr_marks (out-RawArm arm).test) (body_marks c.deref.result.now)
    (marks_of_arm arm) c.expr.ensures c.in_ok-scope.ensures
    (arm_out arm ∙ ap (λ body. expr_marks (out-RawArm arm).test ++ body_marks body) (sym c.deref.ensures)) in
    rw step (judged-next marks_of_arm _ _ arm c.loop-arm.judge _ (drop_next c.args.all.now c.loop-arm.arm-index arm c.loop-arm-test.true c.arm-item.is)
    c.loop-arm.invariant)

pub branches-loop-branch-preserved : goal.branches-loop-branch-preserved
branches-loop-branch-preserved t c =
    let branch = c.branch-item.result in
    let step : c.scope.new.judge ≡ judged_by c.loop-branch.judge (marks_of_branch branch) =
    c.in_ok-scope.ensures ∙ ap (λ body. judged_by c.loop-branch.judge (body_marks body)) c.deref.ensures
    ∙ ap (judged_by c.loop-branch.judge) (sym (branch_out branch)) in
    rw step (judged-next marks_of_branch _ _ branch c.loop-branch.judge _
    (drop_next c.args.all.now c.loop-branch.branch-index branch c.loop-branch-test.true c.branch-item.is) c.loop-branch.invariant)

pub statement-returns-in_ok-arms-in-If : goal.statement-returns-in_ok-arms-in-If
statement-returns-in_ok-arms-in-If t c =
    on_ok (c.scope.new.judge ≡ judged_by c.arms.new.judge (body_marks c.deref-in-If.result.now))
    (c.scope.new.judge ≡ judged_by c.args.judge.now (stmt_marks c.args.s.now)) c.scope.result
    (λ second. then_is c.args.judge.now c.arms.new.judge c.scope.new.judge (arms_marks c.deref.result.now) (body_marks c.deref-in-If.result.now)
    (stmt_marks c.args.s.now)
    c.in_ok-arms-in-If.ensures second (if_out c.args.s.now c.in-If.all c.deref.result.now c.in-If.other c.deref-in-If.result.now c.in-If.is c.deref.ensures
    c.deref-in-If.ensures))
    c.scope.ensures

pub statement-returns-in_ok-scope-in-Until : goal.statement-returns-in_ok-scope-in-Until
statement-returns-in_ok-scope-in-Until t c =
    then_is c.args.judge.now c.scope-in-Until.new.judge c.expr-in-Until.new.judge (body_marks c.deref-in-Until.result.now) (expr_marks c.in-Until.e)
    (stmt_marks c.args.s.now)
    c.in_ok-scope-in-Until.ensures c.expr-in-Until.ensures
    (until_out c.args.s.now c.in-Until.body c.deref-in-Until.result.now c.in-Until.e c.in-Until.is c.deref-in-Until.ensures)

pub statement-returns-in-Assign : goal.statement-returns-in-Assign
statement-returns-in-Assign t c =
    then_is c.args.judge.now c.target.new.judge c.expr-in-Assign.new.judge (target_marks c.in-Assign.place wanted.Variable) (expr_marks c.in-Assign.e)
    (stmt_marks c.args.s.now)
    c.target.ensures c.expr-in-Assign.ensures (assign_out c.args.s.now c.in-Assign.place c.in-Assign.e c.in-Assign.is)

pub statement-returns-in-When : goal.statement-returns-in-When
statement-returns-in-When t c =
    on_ok (c.scope-in-When.new.judge ≡ judged_by c.expr.new.judge (body_marks c.deref-in-When.result.now))
    (c.scope-in-When.new.judge ≡ judged_by c.args.judge.now (stmt_marks c.args.s.now)) c.scope-in-When.result
    (λ second. then_is c.args.judge.now c.expr.new.judge c.scope-in-When.new.judge (expr_marks c.in-When.e) (body_marks c.deref-in-When.result.now)
    (stmt_marks c.args.s.now)
    c.expr.ensures second (when_out c.args.s.now c.in-When.field-0 c.in-When.e c.in-When.body c.deref-in-When.result.now c.in-When.is c.deref-in-When.ensures))
    c.scope-in-When.ensures

pub statement-returns-in-While : goal.statement-returns-in-While
statement-returns-in-While t c =
    on_ok (c.scope-in-While.new.judge ≡ judged_by c.expr-in-While.new.judge (body_marks c.deref-in-While.result.now))
    (c.scope-in-While.new.judge ≡ judged_by c.args.judge.now (stmt_marks c.args.s.now)) c.scope-in-While.result
    (λ second. then_is c.args.judge.now c.expr-in-While.new.judge c.scope-in-While.new.judge (expr_marks c.in-While.e)
    (body_marks c.deref-in-While.result.now) (stmt_marks c.args.s.now)
    c.expr-in-While.ensures second (while_out c.args.s.now c.in-While.e c.in-While.body c.deref-in-While.result.now c.in-While.is c.deref-in-While.ensures))
    c.scope-in-While.ensures
