use Rattle.std.proofs.Common.{◌≡◌, ◌||◌, ap, sym, ◌∙◌, map, not}
use Rattle.bl_tree.proofs.Basics.{drop_next}
use Rattle.bl_tree.specs.declared.tree.Branch.{out-Branch}
use Rattle.bl_conflict.proofs.FirstLemmas.{best-next, all-next, any-next}
use Rattle.bl_conflict.proofs.LoopLemmas.{arm_out, branch_out, if_is, repeat_is, until_is, while_is}
use Rattle.bl_conflict.specs.inner.Failures.{least_by, loops_of_arm, loops_of_branch, of_loop}
use Rattle.bl_effects.specs.Rules.{block_ends, block_loops, loops_in}
use Rattle.bl_conflict.proofs.instant.+loops.Goals as goal

pub block-loop-s-preserved : goal.block-loop-s-preserved
block-loop-s-preserved t c =
    let step = ap (map loops_in) (drop_next c.args.body.now c.loop-s.s-index c.s-item.result c.loop-s-test.true c.s-item.is) in (
      rw c.statement-looked.ensures.instant (all-next (λ s. s.instant) _ _ (loops_in c.s-item.result) c.loop-s.all _ step c.loop-s.invariant.0),
      rw c.statement-looked.ensures.best (best-next of_loop (λ s. s.places) _ _ (loops_in c.s-item.result) c.loop-s.best _ step c.loop-s.invariant.1),
    )

pub arms-loop-arm-preserved : goal.arms-loop-arm-preserved
arms-loop-arm-preserved t c =
    let arm = c.arm-item.result in
    let step = ap (map loops_of_arm) (drop_next c.args.all.now c.loop-arm.arm-index arm c.loop-arm-test.true c.arm-item.is) in
    let body = ap (map loops_in) c.deref.ensures in
    let instant : c.block-looked.result.instant ≡ (loops_of_arm arm).instant =
    c.block-looked.ensures.instant ∙ ap block_ends body ∙ sym (ap (λ l. l.instant) (arm_out arm)) in
    let best = c.block-looked.ensures.best ∙ ap (λ l. least_by of_loop c.loop-arm.best (block_loops l)) body
    ∙ sym (ap (λ l. least_by of_loop c.loop-arm.best l.places) (arm_out arm)) in (
      rw instant (any-next (λ l. l.instant) _ _ (loops_of_arm arm) c.loop-arm.some _ step c.loop-arm.invariant.0),
      rw best (best-next of_loop (λ l. l.places) _ _ (loops_of_arm arm) c.loop-arm.best _ step c.loop-arm.invariant.1),
    )

pub branches-loop-branch-preserved : goal.branches-loop-branch-preserved
branches-loop-branch-preserved t c =
    let branch = c.branch-item.result in
    let step = ap (map loops_of_branch) (drop_next c.args.all.now c.loop-branch.branch-index branch c.loop-branch-test.true c.branch-item.is) in
    let ends = ap (map (λ b. b.ends)) step in
    let body = ap (map loops_in) c.deref.ensures in
    let weak : (out-Branch branch).weak ≡ (loops_of_branch branch).ends.weak = sym (ap (λ l. l.ends.weak) (branch_out branch)) in
    let instant : c.block-looked.result.instant ≡ (loops_of_branch branch).ends.instant =
    c.block-looked.ensures.instant ∙ ap block_ends body ∙ sym (ap (λ l. l.ends.instant) (branch_out branch)) in
    let best = c.block-looked.ensures.best ∙ ap (λ l. least_by of_loop c.loop-branch.best (block_loops l)) body
    ∙ sym (ap (λ l. least_by of_loop c.loop-branch.best l.places) (branch_out branch)) in (
      rw weak (any-next (λ e. not e.weak) _ _ (loops_of_branch branch).ends c.loop-branch.is_strong _ ends c.loop-branch.invariant.0),
      (
        rw (weak, instant) (all-next (λ e. e.weak || e.instant) _ _ (loops_of_branch branch).ends c.loop-branch.strong _ ends c.loop-branch.invariant.1.0),
        (
          rw instant (any-next (λ e. e.instant) _ _ (loops_of_branch branch).ends c.loop-branch.some _ ends c.loop-branch.invariant.1.1.0),
          rw best (best-next of_loop (λ l. l.places) _ _ (loops_of_branch branch) c.loop-branch.best _ step c.loop-branch.invariant.1.1.1),
        ),
      ),
    )

pub statement-returns-in-If-clause-best : goal.statement-returns-in-If-clause-best
statement-returns-in-If-clause-best t c =
    c.block-rest.ensures.best ∙ ap (λ b. least_by of_loop b (block_loops (map loops_in c.deref-in-If.result.now))) c.arms-some.ensures.best
    ∙ if_is c.args.s.now c.args.best c.deref.result.now c.in-If.all c.deref-in-If.result.now c.in-If.other c.in-If.is c.deref.ensures c.deref-in-If.ensures

pub statement-returns-in-Repeat-clause-best : goal.statement-returns-in-Repeat-clause-best
statement-returns-in-Repeat-clause-best t c =
    c.looping.ensures.best ∙ repeat_is c.args.s.now c.args.best c.deref-in-Repeat.result.now c.in-Repeat.body c.in-Repeat.is c.deref-in-Repeat.ensures

pub statement-returns-in-Until-clause-best : goal.statement-returns-in-Until-clause-best
statement-returns-in-Until-clause-best t c =
    c.looping-in-Until.ensures.best ∙ until_is c.args.s.now c.args.best c.deref-in-Until.result.now c.in-Until.body
    c.in-Until.field-1 c.in-Until.is c.deref-in-Until.ensures

pub statement-returns-in-While-clause-best : goal.statement-returns-in-While-clause-best
statement-returns-in-While-clause-best t c =
    c.looping-in-While.ensures.best ∙ while_is c.args.s.now c.args.best c.deref-in-While.result.now c.in-While.body
    c.in-While.field-0 c.in-While.is c.deref-in-While.ensures
