-- How the effects of a program are gathered, block by block.
use Rattle.std.specs.Prelude.{◌≡◌, ◌≢◌, ◌⊎◌, Bool, List, ◌++◌, Some}
use Rattle.bl_tree.specs.declared.place.Place.{Place}
use Rattle.bl_tree.specs.declared.tree.Arm.{Arm, fold-Arm}
use Rattle.bl_tree.specs.declared.tree.Branch.{Branch, fold-Branch}
use Rattle.bl_tree.specs.declared.tree.Stmt.{Stmt}
use Rattle.bl_tree.specs.declared.tree.StmtKind.{StmtKind, fold-StmtKind, out-StmtKind}
use Rattle.bl_effects.specs.declared.gather.Paths.{Paths}
use Rattle.bl_tree.specs.declared.static_path.Static.{Static}
use Rattle.bl_tree.specs.Effects.{arm_reads, arm_writes, branch_paths, kind_reads, kind_writes, stmt_set}
use Rattle.bl_tree.specs.Instant.{BranchInstant, arm_instant, branch_ends, kind_instant, stmt_instant}
use Rattle.bl_tree.specs.Within.{Effect, StandsIn, effect_of, kind_children, place_of}
use Rattle.bl_effects.specs.Table.{found}

-- ---- the parts of a statement

-- what a kind of statement reads
abbrev pub reads_of_kind : StmtKind → List Static
reads_of_kind = fold-StmtKind (List Static) (List Static) (List Static) (List Static) kind_reads arm_reads branch_paths stmt_set

-- what a kind of statement writes
abbrev pub writes_of_kind : StmtKind → List Static
writes_of_kind = fold-StmtKind (List Static) (List Static) (List Static) (List Static) kind_writes arm_writes branch_paths stmt_set

-- whether a kind of statement may end at once
abbrev pub instant_of_kind : StmtKind → Bool
instant_of_kind = fold-StmtKind Bool Bool BranchInstant Bool kind_instant arm_instant branch_ends stmt_instant

-- the statements directly in its blocks
abbrev pub children_of_kind : StmtKind → List Stmt
children_of_kind kind = kind_children (out-StmtKind kind)

-- what an arm reads
abbrev pub reads_of_arm : Arm → List Static
reads_of_arm = fold-Arm (List Static) (List Static) (List Static) (List Static) kind_reads arm_reads branch_paths stmt_set

-- what an arm writes
abbrev pub writes_of_arm : Arm → List Static
writes_of_arm = fold-Arm (List Static) (List Static) (List Static) (List Static) kind_writes arm_writes branch_paths stmt_set

-- whether an arm may end at once
abbrev pub instant_of_arm : Arm → Bool
instant_of_arm = fold-Arm Bool Bool BranchInstant Bool kind_instant arm_instant branch_ends stmt_instant

-- what a branch reads
abbrev pub reads_of_branch : Branch → List Static
reads_of_branch = fold-Branch (List Static) (List Static) (List Static) (List Static) kind_reads arm_reads branch_paths stmt_set

-- what a branch writes
abbrev pub writes_of_branch : Branch → List Static
writes_of_branch = fold-Branch (List Static) (List Static) (List Static) (List Static) kind_writes arm_writes branch_paths stmt_set

-- whether a branch is weak, and whether it may end at once
abbrev pub ends_of_branch : Branch → BranchInstant
ends_of_branch = fold-Branch Bool Bool BranchInstant Bool kind_instant arm_instant branch_ends stmt_instant

-- ---- the table

-- none of the statements has the place, and the table has there what it had
pub record TableKept (P : Stmt → Type 0) (before after : List Effect) (at : Place) : Type 0 where
  pub same : found after at ≡ found before at
  pub none : (s : Stmt) → P s → place_of s ≢ at

-- one of the statements has the place, and the table tells its effects
pub record TableTold (P : Stmt → Type 0) (after : List Effect) (at : Place) : Type 0 where
  pub statement : Stmt
  pub stands : P statement
  pub there : place_of statement ≡ at
  pub tells : found after at ≡ Some (effect_of statement)

-- the table after it was told of the statements of a class
abbrev pub TableRecords : (Stmt → Type 0) → List Effect → List Effect → Type 0
TableRecords P before after = (at : Place) → TableKept P before after at ⊎ TableTold P after at

-- the gathered reads and writes grew by those of a block, and the table was told of its statements
pub record Gathers (reads writes : List Static) (body : List Stmt) (before after : Paths) (old new : List Effect) : Type 0 where
  pub reads_grow : after.reads ≡ before.reads ++ reads
  pub writes_grow : after.writes ≡ before.writes ++ writes
  pub records : TableRecords (StandsIn body) old new
