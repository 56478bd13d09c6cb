-- How many statements a body has, each counted once.
use Rattle.std.specs.Prelude.{ℕ, ◌+◌, List, map}
use Rattle.bl_tree.specs.declared.tree.Stmt.{Stmt, fold-Stmt}
use Rattle.bl_tree.specs.declared.tree.StmtKind.TheOpen.{StmtKind-F, Arm-F, Branch-F, Stmt-F}
use Rattle.bl_tree.specs.Reduce.{total}

-- a kind of statement counts one and the statements of its blocks: an `elseif` or a branch counts nothing of its own
abbrev pub kind_statement_count : StmtKind-F ℕ ℕ ℕ ℕ → ℕ
kind_statement_count (StmtKind-F.Declare k initial) = 1
kind_statement_count (StmtKind-F.Assign path e) = 1
kind_statement_count (StmtKind-F.Call f inputs outputs) = 1
kind_statement_count (StmtKind-F.Await e) = 1
kind_statement_count (StmtKind-F.Run target a inputs outputs) = 1
kind_statement_count (StmtKind-F.If arms other) = 1 + (total arms + total other)
kind_statement_count (StmtKind-F.Cobegin branches) = 1 + total branches
kind_statement_count (StmtKind-F.When guard e body) = 1 + total body
kind_statement_count (StmtKind-F.Repeat body) = 1 + total body
kind_statement_count (StmtKind-F.Until body e) = 1 + total body
kind_statement_count (StmtKind-F.While e body) = 1 + total body
kind_statement_count (StmtKind-F.Return e) = 1

-- the statements of an arm, from those of its block
abbrev pub arm_statement_count : Arm-F ℕ ℕ ℕ ℕ → ℕ
arm_statement_count arm = total arm.body

-- the statements of a branch, from those of its block
abbrev pub branch_statement_count : Branch-F ℕ ℕ ℕ ℕ → ℕ
branch_statement_count branch = total branch.body

-- a statement counts as its kind does
abbrev pub stmt_layer_count : Stmt-F ℕ ℕ ℕ ℕ → ℕ
stmt_layer_count s = s.what

-- a statement and those in its blocks, each once
abbrev pub stmt_count : Stmt → ℕ
stmt_count = fold-Stmt ℕ ℕ ℕ ℕ kind_statement_count arm_statement_count branch_statement_count stmt_layer_count

-- the statements of a body at any depth, each once
abbrev pub statement_count : List Stmt → ℕ
statement_count body = total (map stmt_count body)
