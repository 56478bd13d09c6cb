use Rattle.std.proofs.Common.{rules, true, false, map, ap, sym, ◌∙◌, refl}
use Rattle.bl_tree.specs.declared.tree.Stmt.{out-Stmt}
use Rattle.bl_tree.specs.declared.tree.StmtKind.{out-StmtKind}
use Rattle.bl_tree.specs.declared.tree.StmtKind.TheVariants.{outs-Cobegin, outs-If, outs-Repeat, outs-Until, outs-When, outs-While}
use Rattle.bl_peel.specs.declared.count.Count.{Count}
use Rattle.bl_peel.specs.Peeled.{peeling}
use Rattle.bl_peel.specs.inner.Parts.{count_around, count_beside, count_cobegin, count_repeated, count_tested, counted_arms, counted_block, counted_branches}
use Rattle.bl_peel.specs.inner.Parts.{peeled_count, peeling_of_arm, peeling_of_branch}
use Rattle.bl_peel.proofs.Counting.{arm_counts, arms_done, arms_step, block_done, block_step, branches_done, branches_step, ends_step, is_alone, is_cobegin}
use Rattle.bl_peel.proofs.Counting.{is_if, is_repeat, is_until, is_when, is_while}
use Rattle.bl_peel.proofs.Equations.{peeling_out}
use Rattle.bl_peel.proofs.count.+counting.Goals as goal

pub in_statement-returns : goal.in_statement-returns
in_statement-returns t c = c.in_kind.ensures (out-Stmt c.args.s.now).place ∙ sym (ap peeled_count (peeling_out c.args.s.now))

pub in_arm-returns : goal.in_arm-returns
in_arm-returns t c = c.in_block.ensures ∙ ap (λ body. counted_block (map peeling body)) c.deref.ensures ∙ arm_counts c.args.arm.now

pub in_block-loop-s-preserved : goal.in_block-loop-s-preserved
in_block-loop-s-preserved t c =
    block_step c.args.body.now c.loop-s.s-index c.s-item.result c.loop-s.all c.in_statement.result c.followed-all.result c.loop-s-test.true
    c.s-item.is c.in_statement.ensures c.followed-all.ensures c.loop-s.invariant

pub in_block-returns : goal.in_block-returns
in_block-returns t c = block_done c.args.body.now c.loop-s.s-index c.loop-s.all c.loop-s-test.false c.loop-s.invariant

pub in_arms-loop-arm-preserved : goal.in_arms-loop-arm-preserved
in_arms-loop-arm-preserved t c =
    arms_step c.args.arms.now c.loop-arm.arm-index c.arm-item.result c.loop-arm.all c.in_arm.result c.beside-all.result c.loop-arm-test.true
    c.arm-item.is c.in_arm.ensures c.beside-all.ensures c.loop-arm.invariant

pub in_arms-returns : goal.in_arms-returns
in_arms-returns t c = arms_done c.args.arms.now c.loop-arm.arm-index c.loop-arm.all c.loop-arm-test.false c.loop-arm.invariant

pub in_branches-loop-branch-preserved : goal.in_branches-loop-branch-preserved
in_branches-loop-branch-preserved t c =
    let counts = c.in_block-body.ensures ∙ ap (λ body. counted_block (map peeling body)) c.deref.ensures in (
      branches_step c.args.branches.now c.loop-branch.branch-index c.branch-item.result c.loop-branch.count c.in_block-body.result.front
          c.saturating_add-count.result c.loop-branch-test.true c.branch-item.is (ap (λ (count : Count). count.front) counts)
          c.saturating_add-count.ensures c.loop-branch.invariant.0,
      ends_step c.args.branches.now c.loop-branch.branch-index c.branch-item.result _ c.in_block-body.result.instant c.loop-branch.ends
          c.with-ends.result c.loop-branch-test.true c.branch-item.is refl (ap (λ (count : Count). count.instant) counts)
          c.with-ends.ensures c.loop-branch.invariant.1,
    )

pub in_branches-returns : goal.in_branches-returns
in_branches-returns t c =
    branches_done c.args.branches.now c.loop-branch.branch-index c.loop-branch.count c.loop-branch.ends c.at_once.result c.loop-branch-test.false
    c.loop-branch.invariant.0 c.loop-branch.invariant.1 c.at_once.ensures

pub in_kind-returns-in-If : goal.in_kind-returns-in-If
in_kind-returns-in-If t c place =
    is_if c.args.what.now place c.around.result c.in-If.arms c.in-If.other (ap out-StmtKind c.in-If.is ∙ outs-If c.in-If.arms c.in-If.other)
    (c.around.ensures ∙ ap count_around c.beside.ensures
    ∙ ap (λ tested. count_around (count_beside tested c.in_block.result))
    (c.in_arms-choices.ensures ∙ ap (λ arms. counted_arms (map peeling_of_arm arms)) c.deref.ensures)
    ∙ ap (λ other. count_around (count_beside (counted_arms (map peeling_of_arm c.in-If.arms)) other))
    (c.in_block.ensures ∙ ap (λ body. counted_block (map peeling body)) c.deref-in-If.ensures))

pub in_kind-returns-in-Cobegin : goal.in_kind-returns-in-Cobegin
in_kind-returns-in-Cobegin t c place =
    is_cobegin c.args.what.now place c.cobegin.result c.in-Cobegin.branches (ap out-StmtKind c.in-Cobegin.is ∙ outs-Cobegin c.in-Cobegin.branches)
    (c.cobegin.ensures ∙ ap count_cobegin (c.in_branches.ensures ∙ ap (λ all. counted_branches (map peeling_of_branch all)) c.deref-in-Cobegin.ensures))

pub in_kind-returns-in-When : goal.in_kind-returns-in-When
in_kind-returns-in-When t c place =
    is_when c.args.what.now place c.around-in-When.result c.in-When.field-0 c.in-When.field-1 c.in-When.body
    (ap out-StmtKind c.in-When.is ∙ outs-When c.in-When.field-0 c.in-When.field-1 c.in-When.body)
    (c.around-in-When.ensures ∙ ap count_around
    (c.in_block-in-When.ensures ∙ ap (λ body. counted_block (map peeling body)) c.deref-in-When.ensures))

pub in_kind-returns-in-Repeat : goal.in_kind-returns-in-Repeat
in_kind-returns-in-Repeat t c place =
    is_repeat c.args.what.now place c.repeated.result c.in-Repeat.body (ap out-StmtKind c.in-Repeat.is ∙ outs-Repeat c.in-Repeat.body)
    (c.repeated.ensures ∙ ap count_repeated
    (c.in_block-in-Repeat.ensures ∙ ap (λ body. counted_block (map peeling body)) c.deref-in-Repeat.ensures))

pub in_kind-returns-in-Until : goal.in_kind-returns-in-Until
in_kind-returns-in-Until t c place =
    let counts = c.in_block-body.ensures ∙ ap (λ body. counted_block (map peeling body)) c.deref-in-Until.ensures in
    is_until c.args.what.now place c.tested.result c.in-Until.body c.in-Until.field-1
    (ap out-StmtKind c.in-Until.is ∙ outs-Until c.in-Until.body c.in-Until.field-1)
    (c.tested.ensures ∙ ap (λ (count : Count). count_tested count count.instant) counts)

pub in_kind-returns-in-While : goal.in_kind-returns-in-While
in_kind-returns-in-While t c place =
    is_while c.args.what.now place c.tested-in-While.result c.in-While.field-0 c.in-While.body
    (ap out-StmtKind c.in-While.is ∙ outs-While c.in-While.field-0 c.in-While.body)
    (c.tested-in-While.ensures ∙ ap (λ count. count_tested count true)
    (c.in_block-in-While.ensures ∙ ap (λ body. counted_block (map peeling body)) c.deref-in-While.ensures))

pub in_kind-returns-in-Await : goal.in_kind-returns-in-Await
in_kind-returns-in-Await t c place =
    is_alone c.args.what.now place c.alone.result false (search rules) (search rules) c.alone.ensures

pub in_kind-returns-in-Declare : goal.in_kind-returns-in-Declare
in_kind-returns-in-Declare t c place =
    is_alone c.args.what.now place c.alone-in-Declare.result true (search rules) (search rules) c.alone-in-Declare.ensures
