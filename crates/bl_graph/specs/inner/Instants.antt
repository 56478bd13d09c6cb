-- Whether the parts of statements may end in the tick in which they begin.
use Rattle.std.specs.Prelude.{Bool}
use Rattle.bl_tree.specs.declared.tree.Arm.{Arm, fold-Arm}
use Rattle.bl_tree.specs.declared.tree.Branch.{Branch, fold-Branch}
use Rattle.bl_tree.specs.declared.tree.StmtKind.{StmtKind, fold-StmtKind}
use Rattle.bl_tree.specs.Instant.{BranchInstant, arm_instant, branch_ends, kind_instant, stmt_instant}

-- a kind of statement, an arm and a branch
abbrev pub instant_of_kind : StmtKind → Bool
instant_of_kind = fold-StmtKind Bool Bool BranchInstant Bool kind_instant arm_instant branch_ends stmt_instant

-- whether an arm may end in the tick in which it begins
abbrev pub instant_of_arm : Arm → Bool
instant_of_arm = fold-Arm Bool Bool BranchInstant Bool kind_instant arm_instant branch_ends stmt_instant

-- whether a branch is weak, and whether it may end in the tick in which it begins
abbrev pub ends_of_branch : Branch → BranchInstant
ends_of_branch = fold-Branch Bool Bool BranchInstant Bool kind_instant arm_instant branch_ends stmt_instant
