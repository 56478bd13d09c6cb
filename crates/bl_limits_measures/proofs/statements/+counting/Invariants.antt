use Rattle.std.proofs.Common.{◌≡◌, map, take}
use Rattle.bl_tree.specs.Reduce.{total}
use Rattle.bl_limits_measures.specs.Saturated.{saturated}
use Rattle.bl_limits_measures.specs.Statements.{cell_statements_in, cell_statements_in_arm, cell_statements_in_branch}
use Rattle.bl_limits_measures.proofs.statements.+counting.Given as goal

abbrev pub invariant-in_block-loop-s : goal.invariant-in_block-loop-s
invariant-in_block-loop-s l = l.count ≡ saturated (total (map cell_statements_in (take l.s-index l.body)))

abbrev pub invariant-in_arms-loop-arm : goal.invariant-in_arms-loop-arm
invariant-in_arms-loop-arm l = l.count ≡ saturated (total (map cell_statements_in_arm (take l.arm-index l.arms)))

abbrev pub invariant-in_branches-loop-branch : goal.invariant-in_branches-loop-branch
invariant-in_branches-loop-branch l = l.count ≡ saturated (total (map cell_statements_in_branch (take l.branch-index l.branches)))
