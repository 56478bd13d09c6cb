-- What the count of statements comes to at one arm and one branch.
use Rattle.std.proofs.Common.{◌≡◌, ℕ, ◌+◌}
use Rattle.bl_tree.specs.declared.tree.Arm.{Arm, fold_out-Arm, out-Arm}
use Rattle.bl_tree.specs.declared.tree.Branch.{Branch, fold_out-Branch, out-Branch}
use Rattle.bl_limits_measures.specs.Statements.{arm_cell_statements, branch_cell_statements, cell_statements_in_arm, cell_statements_in_block}
use Rattle.bl_limits_measures.specs.Statements.{cell_statements_in_branch, kind_cell_statements, layer_cell_statements}

pub arm_out : (arm : Arm) → cell_statements_in_arm arm ≡ cell_statements_in_block (out-Arm arm).body
arm_out = fold_out-Arm ℕ ℕ ℕ ℕ kind_cell_statements arm_cell_statements branch_cell_statements layer_cell_statements

pub branch_out : (branch : Branch) → cell_statements_in_branch branch ≡ 1 + cell_statements_in_block (out-Branch branch).body
branch_out = fold_out-Branch ℕ ℕ ℕ ℕ kind_cell_statements arm_cell_statements branch_cell_statements layer_cell_statements
