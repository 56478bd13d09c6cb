-- How many statements a unit has.
use Rattle.std.specs.Prelude.{ℕ, ◌+◌, ◌-◌, List, map, length}
use Rattle.bl_tree.specs.declared.tree.Arm.{Arm, fold-Arm}
use Rattle.bl_tree.specs.declared.tree.Branch.{Branch, fold-Branch}
use Rattle.bl_tree.specs.declared.tree.Stmt.{Stmt, fold-Stmt}
use Rattle.bl_tree.specs.declared.tree.StmtKind.TheOpen.{StmtKind-F, Arm-F, Branch-F, Stmt-F}
use Rattle.bl_tree.specs.declared.tree.Unit.{Unit as UnitDef}
use Rattle.bl_tree.specs.Reduce.{total}

-- every arm after the first is an `elseif`, which counts one more
abbrev pub kind_cell_statements : StmtKind-F ℕ ℕ ℕ ℕ → ℕ
kind_cell_statements (StmtKind-F.Declare k initial) = 1
kind_cell_statements (StmtKind-F.Assign path e) = 1
kind_cell_statements (StmtKind-F.Call f inputs outputs) = 1
kind_cell_statements (StmtKind-F.Await e) = 1
kind_cell_statements (StmtKind-F.Run target a inputs outputs) = 1
kind_cell_statements (StmtKind-F.If arms other) = 1 + (length arms - 1) + total arms + total other
kind_cell_statements (StmtKind-F.Cobegin branches) = 1 + total branches
kind_cell_statements (StmtKind-F.When guard e body) = 1 + total body
kind_cell_statements (StmtKind-F.Repeat body) = 1 + total body
kind_cell_statements (StmtKind-F.Until body e) = 1 + total body
kind_cell_statements (StmtKind-F.While e body) = 1 + total body
kind_cell_statements (StmtKind-F.Return e) = 1

-- the statements of an arm, from those of its block
abbrev pub arm_cell_statements : Arm-F ℕ ℕ ℕ ℕ → ℕ
arm_cell_statements arm = total arm.body

-- a branch counts one more
abbrev pub branch_cell_statements : Branch-F ℕ ℕ ℕ ℕ → ℕ
branch_cell_statements branch = 1 + total branch.body

-- a statement counts as its kind does
abbrev pub layer_cell_statements : Stmt-F ℕ ℕ ℕ ℕ → ℕ
layer_cell_statements s = s.what

-- a statement and those in its blocks, with one more for each `elseif` and each branch of a `cobegin`
abbrev pub cell_statements_in : Stmt → ℕ
cell_statements_in = fold-Stmt ℕ ℕ ℕ ℕ kind_cell_statements arm_cell_statements branch_cell_statements layer_cell_statements

-- the statements in an arm
abbrev pub cell_statements_in_arm : Arm → ℕ
cell_statements_in_arm = fold-Arm ℕ ℕ ℕ ℕ kind_cell_statements arm_cell_statements branch_cell_statements layer_cell_statements

-- the statements in a branch, and one more for itself
abbrev pub cell_statements_in_branch : Branch → ℕ
cell_statements_in_branch = fold-Branch ℕ ℕ ℕ ℕ kind_cell_statements arm_cell_statements branch_cell_statements layer_cell_statements

-- the statements of a block
abbrev pub cell_statements_in_block : List Stmt → ℕ
cell_statements_in_block body = total (map cell_statements_in body)

-- the statements of a unit
abbrev pub cell_statements_of : UnitDef → ℕ
cell_statements_of unit = cell_statements_in_block unit.body
