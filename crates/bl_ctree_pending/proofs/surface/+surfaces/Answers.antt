use Rattle.std.proofs.Common.{◌||◌, not, map, ap, sym, ◌∙◌}
use Rattle.bl_tree.proofs.Basics.{drop_next}
use Rattle.bl_effects.specs.Surface.{block_instant, block_surface, surface_of}
use Rattle.bl_ctree_pending.specs.inner.Surfaces.{surface_of_arm, surface_of_branch}
use Rattle.bl_ctree_pending.proofs.SurfaceLemmas.{all_next, any_next, arm_out, branch_out, cobegin_ends, if_writes, more_next}
use Rattle.bl_ctree_pending.proofs.surface.+surfaces.Goals as goal

pub arms-loop-arm-preserved : goal.arms-loop-arm-preserved
arms-loop-arm-preserved t c =
    let next = drop_next c.args.all.now c.loop-arm.arm-index c.arm-item.result c.loop-arm-test.true c.arm-item.is in
    let parted = ap (map surface_of_arm) next in
    let out = arm_out c.arm-item.result in
    record {
      ends = any_next (λ arm. arm.instant) _ _ (surface_of_arm c.arm-item.result) c.in_ok-some.field-0 c.loop-arm.some _ parted
          (c.in_ok-some.ensures.ends ∙ ap (λ body. block_instant (map surface_of body)) c.deref.ensures
          ∙ sym (ap (λ arm. arm.instant) out)) c.loop-arm.invariant.ends;
      writes = more_next (λ arm. arm.writes) _ _ (surface_of_arm c.arm-item.result)
          (block_surface (map surface_of c.deref.result.now)) c.loop-arm.into c.block.new.into _ parted
          (ap (λ body. block_surface (map surface_of body)) c.deref.ensures ∙ sym (ap (λ arm. arm.writes) out))
          c.in_ok-some.ensures.writes c.loop-arm.invariant.writes;
    }

pub branches-loop-branch-preserved : goal.branches-loop-branch-preserved
branches-loop-branch-preserved t c =
    let next = drop_next c.args.all.now c.loop-branch.branch-index c.branch-item.result c.loop-branch-test.true c.branch-item.is in
    let parted = ap (map surface_of_branch) next in
    let ended = ap (λ all. map (λ branch. branch.ends) (map surface_of_branch all)) next in
    let out = branch_out c.branch-item.result in
    let weak = sym (ap (λ branch. branch.ends.weak) out) in
    let ends = c.in_ok-ends.ensures.ends ∙ ap (λ body. block_instant (map surface_of body)) c.deref.ensures
    ∙ sym (ap (λ branch. branch.ends.instant) out) in
    record {
      strong_one = any_next (λ e. not e.weak) _ _ (surface_of_branch c.branch-item.result).ends _ c.loop-branch.is_strong _ ended
          (ap not weak) c.loop-branch.invariant.strong_one;
      strong = all_next (λ e. e.weak || e.instant) _ _ (surface_of_branch c.branch-item.result).ends _ c.loop-branch.strong _ ended
          (λ i. weak i || ends i) c.loop-branch.invariant.strong;
      some = any_next (λ e. e.instant) _ _ (surface_of_branch c.branch-item.result).ends _ c.loop-branch.some _ ended ends c.loop-branch.invariant.some;
      writes = more_next (λ branch. branch.writes) _ _ (surface_of_branch c.branch-item.result)
          (block_surface (map surface_of c.deref.result.now)) c.loop-branch.into c.block.new.into _ parted
          (ap (λ body. block_surface (map surface_of body)) c.deref.ensures ∙ sym (ap (λ branch. branch.writes) out))
          c.in_ok-ends.ensures.writes c.loop-branch.invariant.writes;
    }

pub statement-returns-in_ok-rest-in-If-clause-writes : goal.statement-returns-in_ok-rest-in-If-clause-writes
statement-returns-in_ok-rest-in-If-clause-writes t c =
    if_writes c.args.s.now c.in-If.all c.deref-in-If.result.now c.in-If.other c.deref-in-If-2.result.now c.in-If.is
    c.deref-in-If.ensures c.deref-in-If-2.ensures
    c.args.into.now c.arms.new.into c.block.new.into c.in_ok-some-in-If.ensures.writes c.in_ok-rest-in-If.ensures.writes

pub statement-returns-in-Cobegin-clause-ends : goal.statement-returns-in-Cobegin-clause-ends
statement-returns-in-Cobegin-clause-ends t c =
    cobegin_ends c.args.s.now c.in-Cobegin.all c.deref-in-Cobegin.result.now c.in-Cobegin.is c.deref-in-Cobegin.ensures
    c.branches.result c.branches.ensures.ends
