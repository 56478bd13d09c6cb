-- Steps of `specs/NamedStartOffsets.antt` that proofs name.
use Rattle.bl_names_tree.specs.declared.stmt.NamedArm.{NamedArm, fold-NamedArm}
use Rattle.bl_names_tree.specs.declared.stmt.NamedBranch.{NamedBranch, fold-NamedBranch}
use Rattle.bl_names_tree.specs.Starts.{NamedStartOffsets, arm_starts, branch_starts, stmt_kind_starts, stmt_layer_starts}

-- where the statements in an arm begin, and the conditions of loops there
abbrev pub starts_of_arm : NamedArm → NamedStartOffsets
starts_of_arm = fold-NamedArm NamedStartOffsets NamedStartOffsets NamedStartOffsets NamedStartOffsets stmt_kind_starts arm_starts branch_starts stmt_layer_starts

-- where the statements in a branch begin, and the conditions of loops there
abbrev pub starts_of_branch : NamedBranch → NamedStartOffsets
starts_of_branch = fold-NamedBranch NamedStartOffsets NamedStartOffsets NamedStartOffsets NamedStartOffsets stmt_kind_starts arm_starts branch_starts stmt_layer_starts
