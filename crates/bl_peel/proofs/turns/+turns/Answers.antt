use Rattle.std.proofs.Common.{◌≡◌, ◌||◌, ◌∷◌, [], ◌++◌, ap, sym, ◌∙◌, refl, subst}
use Rattle.std.specs.Prelude.{IfOk, OnOk}
use Rattle.bl_tree.specs.declared.tree.Stmt.{out-Stmt}
use Rattle.bl_peel.specs.declared.turns.FrontArm.{FrontArm}
use Rattle.bl_peel.specs.Peeled.{ArmPeeling, BranchPeeling}
use Rattle.bl_peel.specs.inner.Parts.{peeling_of_arm, peeling_of_branch, placed_stmt}
use Rattle.bl_peel.proofs.Counting.{ends_step}
use Rattle.bl_peel.proofs.Making.{any_step, arm_made, block_ends, branch_made, deep_out, front_arm_made, fronts_end_step, fronts_step, if_ends, if_made}
use Rattle.bl_peel.proofs.Making.{mapped_step}
use Rattle.bl_peel.proofs.turns.+turns.Goals as goal

pub deep-returns : goal.deep-returns
deep-returns t c = ap (placed_stmt (out-Stmt c.args.s.now).place) c.in_ok-what.ensures ∙ sym (deep_out c.args.s.now)

pub deep_arm-returns : goal.deep_arm-returns
deep_arm-returns t c =
    arm_made c.args.arm.now c.in_ok-test.test c.in_ok-body.body c.deref.result.now c.in_ok-test.ensures c.in_ok-body.ensures c.deref.ensures

pub front_arm-returns : goal.front_arm-returns
front_arm-returns t c =
    front_arm_made c.args.arm.now c.in_ok-test.test c.in_ok-body.field-0 c.deref.result.now c.in_ok-test.ensures c.in_ok-body.ensures c.deref.ensures

pub fronts-loop-s-preserved : goal.fronts-loop-s-preserved
fronts-loop-s-preserved t c = (
  fronts_end_step c.args.body.now c.loop-s.s-index c.s-item.result c.loop-s.begins c.in_ok-begins.begins _ c.loop-s-test.true c.s-item.is
      c.in_ok-begins.ensures.instant c.loop-s.invariant.0,
  fronts_step c.args.body.now c.loop-s.s-index c.s-item.result c.loop-s.begins c.in_ok-begins.begins c.loop-s.into c.fronted.new.into _
      c.loop-s-test.true c.s-item.is c.in_ok-begins.ensures.instant c.in_ok-begins.ensures.made c.loop-s.invariant.1,
)

pub front_branches-loop-one-preserved : goal.front_branches-loop-one-preserved
front_branches-loop-one-preserved t c = (
  mapped_step peeling_of_branch (λ (branch : BranchPeeling). branch.branch) c.args.all.now c.loop-one.one-index c.one-item.result
      c.loop-one.branches c.push.new.self _ c.loop-one-test.true c.one-item.is
      (c.in_ok-push.ensures.ok ∙ ap (λ made. c.loop-one.branches ++ made ∷ [])
      (branch_made c.one-item.result _ c.in_ok-body.field-0 c.deref.result.now refl c.in_ok-body.ensures c.deref.ensures))
      c.loop-one.invariant.0,
  ends_step c.args.all.now c.loop-one.one-index c.one-item.result _ c.in_ok-body.field-0.instant c.loop-one.ends c.with-ends.result
      c.loop-one-test.true c.one-item.is refl
      (block_ends c.in_ok-body.field-0 c.deref.result.now _ c.in_ok-body.ensures c.deref.ensures) c.with-ends.ensures c.loop-one.invariant.1,
)

pub front_arms-loop-one-preserved : goal.front_arms-loop-one-preserved
front_arms-loop-one-preserved t c = (
  mapped_step peeling_of_arm (λ (arm : ArmPeeling). arm.front) c.args.all.now c.loop-one.one-index c.one-item.result c.loop-one.arms
      c.push.new.self _ c.loop-one-test.true c.one-item.is
      (c.in_ok-push.ensures.ok ∙ ap (λ arm. c.loop-one.arms ++ arm ∷ []) (ap (λ (made : FrontArm). made.arm) c.in_ok-made.ensures))
      c.loop-one.invariant.0,
  any_step peeling_of_arm (λ (arm : ArmPeeling). arm.instant) c.args.all.now c.loop-one.one-index c.one-item.result c.loop-one.instant
      (c.loop-one.instant || c.in_ok-made.made.instant) _ c.loop-one-test.true c.one-item.is
      (ap (λ instant. c.loop-one.instant || instant) (ap (λ (made : FrontArm). made.instant) c.in_ok-made.ensures)) c.loop-one.invariant.1,
)

pub front-returns-in_ok-front_block-in-If-clause-instant : goal.front-returns-in_ok-front_block-in-If-clause-instant
front-returns-in_ok-front_block-in-If-clause-instant t c =
    subst (λ instant. IfOk c.append_if.result (λ ends. ends ≡ instant))
    (if_ends c.args.what.now c.args.place c.in-If.arms c.deref.result.now c.in-If.other c.deref-in-If.result.now c.in_ok-tested-in-If.tested
    c.in_ok-front_block-in-If.field-0 c.in-If.is c.in_ok-tested-in-If.ensures c.deref.ensures c.in_ok-front_block-in-If.ensures c.deref-in-If.ensures)
    c.append_if.ensures.instant

pub front-returns-in_ok-front_block-in-If-clause-made : goal.front-returns-in_ok-front_block-in-If-clause-made
front-returns-in_ok-front_block-in-If-clause-made t c =
    subst (λ front. OnOk c.append_if.result (c.append_if.new.into ≡ c.args.into.now ++ front))
    (if_made c.args.what.now c.args.place c.in-If.arms c.deref.result.now c.in-If.other c.deref-in-If.result.now c.in_ok-tested-in-If.tested
    c.in_ok-front_block-in-If.field-0 c.in-If.is c.in_ok-tested-in-If.ensures c.deref.ensures c.in_ok-front_block-in-If.ensures c.deref-in-If.ensures)
    c.append_if.ensures.made
