use Rattle.std.proofs.Common.{ap, sym, ◌∙◌}
use Rattle.bl_tree.specs.declared.tree.Branch.{out-Branch}
use Rattle.bl_limits_measures.specs.Saturated.{saturated}
use Rattle.bl_limits_measures.specs.Statements.{cell_statements_in, cell_statements_in_arm, cell_statements_in_block, cell_statements_in_branch}
use Rattle.bl_limits_measures.proofs.Numbers.{one_more, sum_more}
use Rattle.bl_limits_measures.proofs.StatementLemmas.{arm_out, branch_out}
use Rattle.bl_limits_measures.proofs.statements.+counting.Goals as goal

pub in_block-loop-s-preserved : goal.in_block-loop-s-preserved
in_block-loop-s-preserved t c =
    sum_more cell_statements_in c.args.body.now c.loop-s.s-index c.s-item.result c.loop-s.count c.in_statement.result
    c.saturating_add-count.result c.loop-s-test.true c.s-item.is
    c.in_statement.ensures c.saturating_add-count.ensures c.loop-s.invariant

pub in_arms-loop-arm-preserved : goal.in_arms-loop-arm-preserved
in_arms-loop-arm-preserved t c =
    let here = c.in_block.ensures ∙ ap (λ body. saturated (cell_statements_in_block body)) c.deref.ensures ∙ ap saturated (sym (arm_out c.arm-item.result)) in
    sum_more cell_statements_in_arm c.args.arms.now c.loop-arm.arm-index c.arm-item.result c.loop-arm.count c.in_block.result
    c.saturating_add-count.result c.loop-arm-test.true c.arm-item.is
    here c.saturating_add-count.ensures c.loop-arm.invariant

pub in_branches-loop-branch-preserved : goal.in_branches-loop-branch-preserved
in_branches-loop-branch-preserved t c =
    let inside = c.in_block.ensures ∙ ap (λ body. saturated (cell_statements_in_block body)) c.deref.ensures in
    let here = one_more c.in_block.result (cell_statements_in_block (out-Branch c.branch-item.result).body)
    c.saturating_add-inside.result inside c.saturating_add-inside.ensures
    ∙ ap saturated (sym (branch_out c.branch-item.result)) in
    sum_more cell_statements_in_branch c.args.branches.now c.loop-branch.branch-index c.branch-item.result c.loop-branch.count
    c.saturating_add-inside.result c.saturating_add-count.result
    c.loop-branch-test.true c.branch-item.is here c.saturating_add-count.ensures c.loop-branch.invariant
