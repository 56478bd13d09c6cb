use Rattle.std.proofs.Common.{◌≡◌, IfOk, ap, sym, ◌∙◌, subst, map}
use Rattle.bl_tree.proofs.Basics.{drop_next}
use Rattle.bl_tree.specs.Reduce.{joined}
use Rattle.bl_conflict.proofs.AliasLemmas.{arm_out, branch_out, if_is}
use Rattle.bl_conflict.proofs.FirstLemmas.{best-next}
use Rattle.bl_conflict.specs.inner.Failures.{aliases_of_arm, aliases_of_branch, least_by, of_alias}
use Rattle.bl_effects.specs.Rules.{aliases_in}
use Rattle.bl_conflict.proofs.alias.+calls.Goals as goal

pub block-loop-s-preserved : goal.block-loop-s-preserved
block-loop-s-preserved t c =
    rw c.in_ok-best.ensures
    (best-next of_alias aliases_in _ _ c.s-item.result c.loop-s.best _
    (drop_next c.args.body.now c.loop-s.s-index c.s-item.result c.loop-s-test.true c.s-item.is) c.loop-s.invariant)

pub arms-loop-arm-preserved : goal.arms-loop-arm-preserved
arms-loop-arm-preserved t c =
    let arm = c.arm-item.result in
    let best = c.in_ok-best.ensures ∙ ap (λ body. least_by of_alias c.loop-arm.best (joined (map aliases_in body))) c.deref.ensures
    ∙ ap (least_by of_alias c.loop-arm.best) (sym (arm_out arm)) in
    rw best (best-next of_alias aliases_of_arm _ _ arm c.loop-arm.best _
    (drop_next c.args.all.now c.loop-arm.arm-index arm c.loop-arm-test.true c.arm-item.is) c.loop-arm.invariant)

pub branches-loop-branch-preserved : goal.branches-loop-branch-preserved
branches-loop-branch-preserved t c =
    let branch = c.branch-item.result in
    let best = c.in_ok-best.ensures ∙ ap (λ body. least_by of_alias c.loop-branch.best (joined (map aliases_in body)))
    c.deref.ensures ∙ ap (least_by of_alias c.loop-branch.best) (sym (branch_out branch)) in
    rw best (best-next of_alias aliases_of_branch _ _ branch c.loop-branch.best _
    (drop_next c.args.all.now c.loop-branch.branch-index branch c.loop-branch-test.true c.branch-item.is) c.loop-branch.invariant)

pub statement-returns-in_ok-best-in-If : goal.statement-returns-in_ok-best-in-If
statement-returns-in_ok-best-in-If t c =
    let first = ap (λ best. least_by of_alias best (joined (map aliases_in c.deref-in-If-2.result.now))) c.in_ok-best-in-If.ensures in
    subst (λ x. IfOk c.block.result (λ found. found ≡ x))
    (first ∙ if_is c.args.s.now c.args.best c.deref-in-If.result.now c.in-If.all c.deref-in-If-2.result.now c.in-If.other c.in-If.is
    c.deref-in-If.ensures c.deref-in-If-2.ensures) c.block.ensures
