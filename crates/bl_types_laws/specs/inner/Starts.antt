-- Steps of `specs/StatementOffsets.antt` that proofs name.
use Rattle.bl_tree.specs.declared.tree.Arm.{Arm, fold-Arm}
use Rattle.bl_tree.specs.declared.tree.Branch.{Branch, fold-Branch}
use Rattle.bl_types_laws.specs.Starts.{StatementOffsets, arm_layer_starts, branch_layer_starts, stmt_kind_starts, stmt_layer_starts}

-- where the statements in an arm begin
abbrev pub starts_of_arm : Arm → StatementOffsets
starts_of_arm = fold-Arm StatementOffsets StatementOffsets StatementOffsets StatementOffsets stmt_kind_starts arm_layer_starts branch_layer_starts stmt_layer_starts

-- where the statements in a branch begin
abbrev pub starts_of_branch : Branch → StatementOffsets
starts_of_branch = fold-Branch StatementOffsets StatementOffsets StatementOffsets StatementOffsets stmt_kind_starts arm_layer_starts branch_layer_starts stmt_layer_starts
