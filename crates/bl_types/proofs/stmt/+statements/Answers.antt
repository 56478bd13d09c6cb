use Rattle.std.proofs.Common.{◌∙◌, ◌++◌, ap, append_assoc, map, sym}
use Rattle.std.specs.Prelude.{option_map}
use Rattle.bl_tree.proofs.Basics.{drop_next}
use Rattle.bl_tree.specs.declared.tree.StmtKind.TheVariants as what
use Rattle.bl_names_tree.specs.declared.stmt.NamedArm.{out-NamedArm}
use Rattle.bl_names_tree.specs.declared.stmt.NamedStmt.{out-NamedStmt}
use Rattle.bl_types.specs.inner.States.{passed}
use Rattle.bl_types.specs.Statements.{arm_walked, branch_walked, condition, in_order, misplaced, walked_block, walked_stmt}
use Rattle.bl_types.proofs.StateLemmas.{passed_then}
use Rattle.bl_types.proofs.WalkLemmas.{arm_is, if_is, made_part, state_part, until_is, when_is, while_is}
use Rattle.bl_types.proofs.stmt.+statements.Goals as goal

pub arm-returns-clause-state : goal.arm-returns-clause-state
arm-returns-clause-state t c =
    let constants = c.args.source.constants.now in
    let vars = c.args.source.vars.now in
    let old = c.args.state.now in
    let arm = c.args.arm.now in
    let body = c.deref.result.now in
    passed_then old c.condition.new.state c.block.new.state old.env (condition old.env (out-NamedArm arm).test).failures
    (λ env. (walked_block constants vars body env).env)
    (λ env. (walked_block constants vars body env).failures) c.in_ok-test.ensures.state c.in_ok-body.ensures.state
    ∙ ap (λ w. passed old w.env w.failures) (sym (arm_is constants vars arm body old.env c.deref.ensures))

pub block-loop-s-preserved : goal.block-loop-s-preserved
block-loop-s-preserved t c =
    let walk = walked_stmt c.args.source.constants.now c.args.source.vars.now in
    let s = c.s-item.result in
    let step = drop_next c.args.body.now c.loop-s.s-index s c.loop-s-test.true c.s-item.is in (
      made_part walk _ _ s c.loop-s.state c.statement.new.state step c.in_ok-one.ensures.state c.loop-s.made c.keep.new.list _
          c.in_ok-one.one c.in_ok-one.ensures.made c.in_ok-keep.ensures c.loop-s.invariant.0,
      state_part walk _ _ s c.loop-s.state c.statement.new.state step c.in_ok-one.ensures.state _ c.loop-s.invariant.1,
    )

pub arms-loop-one-preserved : goal.arms-loop-one-preserved
arms-loop-one-preserved t c =
    let walk = arm_walked c.args.source.constants.now c.args.source.vars.now in
    let arm = c.one-item.result in
    let step = drop_next c.args.all.now c.loop-one.one-index arm c.loop-one-test.true c.one-item.is in (
      made_part walk _ _ arm c.loop-one.state c.arm.new.state step c.in_ok-one.ensures.state c.loop-one.made c.keep.new.list _
          c.in_ok-one.one c.in_ok-one.ensures.made c.in_ok-keep.ensures c.loop-one.invariant.0,
      state_part walk _ _ arm c.loop-one.state c.arm.new.state step c.in_ok-one.ensures.state _ c.loop-one.invariant.1,
    )

pub branches-loop-one-preserved : goal.branches-loop-one-preserved
branches-loop-one-preserved t c =
    let walk = branch_walked c.args.source.constants.now c.args.source.vars.now in
    let branch = c.one-item.result in
    let step = drop_next c.args.all.now c.loop-one.one-index branch c.loop-one-test.true c.one-item.is in (
      made_part walk _ _ branch c.loop-one.state c.branch-alloc.new.state step c.in_ok-one.ensures.state c.loop-one.made
          c.keep.new.list _ c.in_ok-one.one c.in_ok-one.ensures.made c.in_ok-keep.ensures
          c.loop-one.invariant.0,
      state_part walk _ _ branch c.loop-one.state c.branch-alloc.new.state step c.in_ok-one.ensures.state _ c.loop-one.invariant.1,
    )

pub kind-returns-in_ok-other-in-If-clause-state : goal.kind-returns-in_ok-other-in-If-clause-state
kind-returns-in_ok-other-in-If-clause-state t c =
    let constants = c.args.source.constants.now in
    let vars = c.args.source.vars.now in
    let old = c.args.state.now in
    let arms = c.deref-in-If.result.now in
    let other = c.deref-in-If-2.result.now in
    let tested = in_order (map (arm_walked constants vars) arms) old.env in
    passed_then old c.arms.new.state c.block.new.state tested.env tested.failures
    (λ env. (walked_block constants vars other env).env) (λ env. (walked_block constants vars other env).failures)
    c.in_ok-arms-in-If.ensures.state c.in_ok-other-in-If.ensures.state
    ∙ ap (λ w. passed old w.env w.failures) (sym (if_is constants vars c.args.s.now c.in-If.all arms c.in-If.other other old.env
    c.in-If.is c.deref-in-If.ensures c.deref-in-If-2.ensures))

pub kind-returns-in_ok-body-in-When-clause-state : goal.kind-returns-in_ok-body-in-When-clause-state
kind-returns-in_ok-body-in-When-clause-state t c =
    let constants = c.args.source.constants.now in
    let vars = c.args.source.vars.now in
    let old = c.args.state.now in
    let s = c.args.s.now in
    let body = c.deref-in-When.result.now in
    let place = (out-NamedStmt s).place in
    passed_then old c.guarded-in-When.new.state c.block-in-When.new.state old.env (misplaced old.env.kind place ++ (condition old.env c.in-When.e).failures)
    (λ env. (walked_block constants vars body env).env)
    (λ env. (walked_block constants vars body env).failures) c.in_ok-test-in-When.ensures.state c.in_ok-body-in-When.ensures.state
    ∙ ap (passed old (walked_block constants vars body old.env).env)
    (append_assoc (misplaced old.env.kind place) (condition old.env c.in-When.e).failures (walked_block constants vars body old.env).failures)
    ∙ ap (λ w. passed old w.env w.failures) (sym (when_is constants vars s c.in-When.guard c.in-When.e c.in-When.body body old.env
    c.in-When.is c.deref-in-When.ensures))

pub kind-returns-in_ok-body-in-While-clause-state : goal.kind-returns-in_ok-body-in-While-clause-state
kind-returns-in_ok-body-in-While-clause-state t c =
    let constants = c.args.source.constants.now in
    let vars = c.args.source.vars.now in
    let old = c.args.state.now in
    let body = c.deref-in-While.result.now in
    passed_then old c.condition-in-While.new.state c.block-in-While.new.state old.env (condition old.env c.in-While.e).failures
    (λ env. (walked_block constants vars body env).env)
    (λ env. (walked_block constants vars body env).failures) c.in_ok-test-in-While.ensures.state c.in_ok-body-in-While.ensures.state
    ∙ ap (λ w. passed old w.env w.failures) (sym (while_is constants vars c.args.s.now c.in-While.e c.in-While.body body old.env
    c.in-While.is c.deref-in-While.ensures))

pub kind-returns-in_ok-test-in-Until-clause-state : goal.kind-returns-in_ok-test-in-Until-clause-state
kind-returns-in_ok-test-in-Until-clause-state t c =
    let constants = c.args.source.constants.now in
    let vars = c.args.source.vars.now in
    let old = c.args.state.now in
    let body = c.deref-in-Until.result.now in
    let walked = walked_block constants vars body old.env in
    passed_then old c.block-in-Until.new.state c.condition.new.state walked.env walked.failures (λ env. env)
    (λ env. (condition env c.in-Until.e).failures) c.in_ok-body-in-Until.ensures.state
    c.in_ok-test-in-Until.ensures.state
    ∙ ap (λ w. passed old w.env w.failures) (sym (until_is constants vars c.args.s.now c.in-Until.body body c.in-Until.e old.env
    c.in-Until.is c.deref-in-Until.ensures))

pub kind-returns-in_ok-test-in-Until-clause-made : goal.kind-returns-in_ok-test-in-Until-clause-made
kind-returns-in_ok-test-in-Until-clause-made t c =
    let constants = c.args.source.constants.now in
    let vars = c.args.source.vars.now in
    let old = c.args.state.now in
    let body = c.deref-in-Until.result.now in
    let test = c.in_ok-test-in-Until.ensures.made ∙ ap (λ s. (condition s.env c.in-Until.e).made) c.in_ok-body-in-Until.ensures.state in
    c.until_made.ensures ∙ (λ i. option_map (λ e. what.Until (c.in_ok-body-in-Until.ensures.made i) e) (test i))
    ∙ ap (λ w. w.made) (sym (until_is constants vars c.args.s.now c.in-Until.body body c.in-Until.e old.env c.in-Until.is c.deref-in-Until.ensures))
