use Rattle.std.proofs.Common.{◌&&◌, ◌||◌, not, cond, ap, sym, map, ◌∙◌}
use Rattle.bl_tree.specs.Instant.{instant}
use Rattle.bl_tree.specs.Reduce.{all_of}
use Rattle.bl_graph.specs.inner.Instants.{ends_of_branch, instant_of_arm}
use Rattle.bl_graph.proofs.Ends.{all_step, any_step, branches_end, ends_branch_out, instant_arm_out}
use Rattle.bl_graph.proofs.instant.+instants.Goals as goal

pub is_instant_block-loop-s-preserved : goal.is_instant_block-loop-s-preserved
is_instant_block-loop-s-preserved t c =
    all_step instant c.args.body.now c.loop-s.s-index c.s-item.result c.loop-s.all _ c.loop-s-test.true c.s-item.is
    (ap (λ b. c.loop-s.all && b) c.instant-all.ensures) c.loop-s.invariant

pub some_arm-loop-arm-preserved : goal.some_arm-loop-arm-preserved
some_arm-loop-arm-preserved t c =
    any_step instant_of_arm c.args.arms.now c.loop-arm.arm-index c.arm-item.result c.loop-arm.some _ c.loop-arm-test.true c.arm-item.is
    (ap (λ b. c.loop-arm.some || b) (c.is_instant_block-some.ensures ∙ ap (λ body. all_of (map instant body)) c.deref.ensures
    ∙ sym (instant_arm_out c.arm-item.result))) c.loop-arm.invariant

pub branches_instant-loop-branch-preserved : goal.branches_instant-loop-branch-preserved
branches_instant-loop-branch-preserved t c =
    let out = ends_branch_out c.branch-item.result in
    let weak = sym (ap (λ ends. ends.weak) out) in
    let ends = c.is_instant_block-ends.ensures ∙ ap (λ body. all_of (map instant body)) c.deref.ensures ∙ sym (ap (λ ends. ends.instant) out) in (
      any_step (λ branch. not (ends_of_branch branch).weak) c.args.all.now c.loop-branch.branch-index c.branch-item.result
          c.loop-branch.is_strong _ c.loop-branch-test.true c.branch-item.is
          (ap (λ w. c.loop-branch.is_strong || not w) weak) c.loop-branch.invariant.0,
      all_step (λ branch. (ends_of_branch branch).weak || (ends_of_branch branch).instant) c.args.all.now c.loop-branch.branch-index
          c.branch-item.result c.loop-branch.strong _ c.loop-branch-test.true c.branch-item.is
          (λ i. c.loop-branch.strong && (weak i || ends i)) c.loop-branch.invariant.1,
      any_step (λ branch. (ends_of_branch branch).instant) c.args.all.now c.loop-branch.branch-index c.branch-item.result
          c.loop-branch.some _ c.loop-branch-test.true c.branch-item.is
          (ap (λ b. c.loop-branch.some || b) ends) c.loop-branch.invariant.2,
    )

pub branches_instant-returns-then-is_strong : goal.branches_instant-returns-then-is_strong
branches_instant-returns-then-is_strong t c =
    sym (ap (λ b. cond b c.loop-branch.strong c.loop-branch.some) c.if-is_strong.true)
    ∙ branches_end c.args.all.now c.loop-branch.branch-index c.loop-branch.is_strong c.loop-branch.strong c.loop-branch.some
    c.loop-branch-test.false c.loop-branch.invariant.0 c.loop-branch.invariant.1 c.loop-branch.invariant.2

pub branches_instant-returns-else-is_strong : goal.branches_instant-returns-else-is_strong
branches_instant-returns-else-is_strong t c =
    sym (ap (λ b. cond b c.loop-branch.strong c.loop-branch.some) c.if-is_strong.false)
    ∙ branches_end c.args.all.now c.loop-branch.branch-index c.loop-branch.is_strong c.loop-branch.strong c.loop-branch.some
    c.loop-branch-test.false c.loop-branch.invariant.0 c.loop-branch.invariant.1 c.loop-branch.invariant.2
