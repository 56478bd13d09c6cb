use Rattle.std.proofs.Common.{◌≡◌}
use Rattle.bl_tree.specs.declared.tree.Role.TheVariants as role
use Rattle.bl_names.specs.Named.{block_piece, named_var, piece_of_arm, piece_of_branch, piece_of_kind, stmt_piece}
use Rattle.bl_names.specs.inner.Past.{past, with_variable}
use Rattle.bl_names.proofs.KindLemmas.{arm_made, arm_past, assign_past, await_past, call_past, if_past, let_past, return_past, run_past, until_past, var_past}
use Rattle.bl_names.proofs.KindLemmas.{when_made, when_past, while_made, while_past}
use Rattle.bl_names_scopes.proofs.WalkLemmas.{on_ok}
use Rattle.bl_names.proofs.PastLemmas.{closed_past, loop_made, loop_past, sure}
use Rattle.bl_names.proofs.stmt.+named_statements.Goals as goal

pub block-loop-s-preserved : goal.block-loop-s-preserved
block-loop-s-preserved t c = record {
  made = loop_made stmt_piece c.args.body.now c.loop-s.s-index c.s-item.result c.loop-s.state c.statement.new.state c.in_ok-statement.field-0 c.loop-s.made
      c.push.new.self _
      c.loop-s-test.true c.s-item.is c.in_ok-statement.ensures.past c.in_ok-statement.ensures.made c.in_ok-push.ensures.ok c.loop-s.invariant.made;
  is_past =
      loop_past stmt_piece c.args.body.now c.loop-s.s-index c.s-item.result c.loop-s.state c.statement.new.state _ c.loop-s-test.true c.s-item.is
      c.in_ok-statement.ensures.past c.loop-s.invariant.is_past;
}

pub arms-loop-one-preserved : goal.arms-loop-one-preserved
arms-loop-one-preserved t c = record {
  made = loop_made piece_of_arm c.args.all.now c.loop-one.one-index c.one-item.result c.loop-one.state c.arm.new.state c.in_ok-arm.field-0 c.loop-one.made
      c.push.new.self _
      c.loop-one-test.true c.one-item.is c.in_ok-arm.ensures.past c.in_ok-arm.ensures.made c.in_ok-push.ensures.ok c.loop-one.invariant.made;
  is_past =
      loop_past piece_of_arm c.args.all.now c.loop-one.one-index c.one-item.result c.loop-one.state c.arm.new.state _ c.loop-one-test.true c.one-item.is
      c.in_ok-arm.ensures.past c.loop-one.invariant.is_past;
}

pub branches-loop-one-preserved : goal.branches-loop-one-preserved
branches-loop-one-preserved t c = record {
  made = loop_made piece_of_branch c.args.all.now c.loop-one.one-index c.one-item.result c.loop-one.state c.branch-alloc.new.state c.in_ok-branch.field-0
      c.loop-one.made c.push.new.self _
      c.loop-one-test.true c.one-item.is c.in_ok-branch.ensures.past c.in_ok-branch.ensures.made c.in_ok-push.ensures.ok c.loop-one.invariant.made;
  is_past =
      loop_past piece_of_branch c.args.all.now c.loop-one.one-index c.one-item.result c.loop-one.state c.branch-alloc.new.state _ c.loop-one-test.true
      c.one-item.is c.in_ok-branch.ensures.past c.loop-one.invariant.is_past;
}

pub scope-returns-clause-past : goal.scope-returns-clause-past
scope-returns-clause-past t c =
    closed_past c.args.state.now c.block.new.state c.open.new.self c.close.new.self (block_piece c.args.body.now) c.in_ok-open.ensures
    c.in_ok-made.ensures.past c.close.ensures

pub arm-returns-clause-made : goal.arm-returns-clause-made
arm-returns-clause-made t c =
    arm_made c.args.state.now.scopes c.args.arm.now c.deref.result.now c.in_ok-test.test c.in_ok-body.body c.deref.ensures c.in_ok-test.ensures
    c.in_ok-body.ensures.made

pub arm-returns-clause-past : goal.arm-returns-clause-past
arm-returns-clause-past t c = arm_past c.args.state.now c.scope.new.state c.args.arm.now c.deref.result.now c.deref.ensures c.in_ok-body.ensures.past

pub kind-returns-in_ok-value-in-Var-clause-past : goal.kind-returns-in_ok-value-in-Var-clause-past
kind-returns-in_ok-value-in-Var-clause-past t c =
    on_ok (c.declare.new.state ≡ with_variable c.args.state.now c.in-Var.name (named_var c.args.state.now.scopes c.in-Var.name c.in-Var.ty role.Variable))
    (c.declare.new.state ≡ past c.args.state.now (piece_of_kind c.args.kind.now)) c.declare.result
    (λ h. var_past c.args.state.now c.declare.new.state c.args.kind.now c.in-Var.name c.in-Var.ty c.in-Var.value c.in-Var.is h) c.declare.ensures.past

pub kind-returns-in_ok-value-in-Let-clause-past : goal.kind-returns-in_ok-value-in-Let-clause-past
kind-returns-in_ok-value-in-Let-clause-past t c =
    on_ok (c.declare-in-Let.new.state ≡ with_variable c.args.state.now c.in-Let.name (named_var c.args.state.now.scopes c.in-Let.name c.in-Let.ty role.Fixed))
    (c.declare-in-Let.new.state ≡ past c.args.state.now (piece_of_kind c.args.kind.now)) c.declare-in-Let.result
    (λ h. let_past c.args.state.now c.declare-in-Let.new.state c.args.kind.now c.in-Let.name c.in-Let.ty c.in-Let.value c.in-Let.is h)
    c.declare-in-Let.ensures.past

pub kind-returns-in-Assign-clause-past : goal.kind-returns-in-Assign-clause-past
kind-returns-in-Assign-clause-past t c =
    sure (c.args.state.now ≡ past c.args.state.now (piece_of_kind c.args.kind.now)) c.assign.result
    (assign_past c.args.state.now c.args.kind.now c.in-Assign.place c.in-Assign.e c.in-Assign.is)

pub kind-returns-in-Call-clause-past : goal.kind-returns-in-Call-clause-past
kind-returns-in-Call-clause-past t c =
    sure (c.args.state.now ≡ past c.args.state.now (piece_of_kind c.args.kind.now)) c.call.result
    (call_past c.args.state.now c.args.kind.now c.in-Call.callee c.in-Call.inputs c.in-Call.outputs c.in-Call.is)

pub kind-returns-in-Run-clause-past : goal.kind-returns-in-Run-clause-past
kind-returns-in-Run-clause-past t c =
    sure (c.args.state.now ≡ past c.args.state.now (piece_of_kind c.args.kind.now)) c.run.result
    (run_past c.args.state.now c.args.kind.now c.in-Run.place c.in-Run.callee c.in-Run.inputs c.in-Run.outputs c.in-Run.is)

pub kind-returns-in_ok-expr-in-Await-clause-past : goal.kind-returns-in_ok-expr-in-Await-clause-past
kind-returns-in_ok-expr-in-Await-clause-past t c = await_past c.args.state.now c.args.kind.now c.in-Await.e c.in-Await.is

pub kind-returns-in_ok-optional_expr-in-Return-clause-past : goal.kind-returns-in_ok-optional_expr-in-Return-clause-past
kind-returns-in_ok-optional_expr-in-Return-clause-past t c = return_past c.args.state.now c.args.kind.now c.in-Return.e c.in-Return.is

pub kind-returns-in_ok-scope-in-If-clause-past : goal.kind-returns-in_ok-scope-in-If-clause-past
kind-returns-in_ok-scope-in-If-clause-past t c =
    if_past c.args.state.now c.arms.new.state c.scope.new.state c.args.kind.now c.in-If.all c.deref-in-If.result.now c.in-If.other c.deref-in-If-2.result.now
    c.in-If.is c.deref-in-If.ensures c.deref-in-If-2.ensures c.in_ok-arms-in-If.ensures.past c.in_ok-scope-in-If.ensures.past

pub kind-returns-in_ok-scope-in-When-clause-made : goal.kind-returns-in_ok-scope-in-When-clause-made
kind-returns-in_ok-scope-in-When-clause-made t c =
    when_made c.args.state.now.scopes c.args.kind.now c.in-When.guard c.in-When.e c.in-When.body c.deref-in-When.result.now c.in_ok-test-in-When.test
    c.in_ok-scope-in-When.field-0
    c.in-When.is c.deref-in-When.ensures c.in_ok-test-in-When.ensures c.in_ok-scope-in-When.ensures.made

pub kind-returns-in_ok-scope-in-When-clause-past : goal.kind-returns-in_ok-scope-in-When-clause-past
kind-returns-in_ok-scope-in-When-clause-past t c =
    when_past c.args.state.now c.scope-in-When.new.state c.args.kind.now c.in-When.guard c.in-When.e c.in-When.body c.deref-in-When.result.now
    c.in-When.is c.deref-in-When.ensures c.in_ok-scope-in-When.ensures.past

pub kind-returns-in_ok-scope-in-While-clause-made : goal.kind-returns-in_ok-scope-in-While-clause-made
kind-returns-in_ok-scope-in-While-clause-made t c =
    while_made c.args.state.now.scopes c.args.kind.now c.in-While.e c.in-While.body c.deref-in-While.result.now c.in_ok-test-in-While.test
    c.in_ok-scope-in-While.field-0
    c.in-While.is c.deref-in-While.ensures c.in_ok-test-in-While.ensures c.in_ok-scope-in-While.ensures.made

pub kind-returns-in_ok-scope-in-While-clause-past : goal.kind-returns-in_ok-scope-in-While-clause-past
kind-returns-in_ok-scope-in-While-clause-past t c =
    while_past c.args.state.now c.scope-in-While.new.state c.args.kind.now c.in-While.e c.in-While.body c.deref-in-While.result.now
    c.in-While.is c.deref-in-While.ensures c.in_ok-scope-in-While.ensures.past

pub kind-returns-in_ok-scope-in-Until-clause-past : goal.kind-returns-in_ok-scope-in-Until-clause-past
kind-returns-in_ok-scope-in-Until-clause-past t c =
    until_past c.args.state.now c.scope-in-Until.new.state c.args.kind.now c.in-Until.body c.deref-in-Until.result.now c.in-Until.e
    c.in-Until.is c.deref-in-Until.ensures c.in_ok-scope-in-Until.ensures.past
