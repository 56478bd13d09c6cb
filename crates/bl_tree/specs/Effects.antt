-- What statements read and write: sets of static paths.
use Rattle.std.specs.Prelude.{List, [], ◌∷◌, ◌++◌, map, Option, Some, None}
use Rattle.bl_tree.specs.declared.tree.Expr.{Expr}
use Rattle.bl_tree.specs.declared.tree.Path.{Path}
use Rattle.bl_tree.specs.declared.tree.Stmt.{Stmt, fold-Stmt}
use Rattle.bl_tree.specs.declared.tree.StmtKind.TheOpen.{StmtKind-F, Arm-F, Branch-F, Stmt-F}
use Rattle.bl_tree.specs.Reduce.{joined}
use Rattle.bl_tree.specs.declared.static_path.Static.{Static}
use Rattle.bl_tree.specs.Static.{whole, set_of, mentions, static_of, index_mentions, path_mentions}

-- what an optional expression reads
abbrev pub optional_mentions : Option Expr → List Static
optional_mentions (Some e) = mentions e
optional_mentions None = []

-- what the indices of a target read
abbrev pub target_mentions : Option Path → List Static
target_mentions (Some path) = index_mentions path
target_mentions None = []

-- a target's static path
abbrev pub target_static : Option Path → List Static
target_static (Some path) = static_of path ∷ []
target_static None = []

-- a call or `run` reads its inputs and its outputs
abbrev pub argument_mentions : List Expr → List Path → List Static
argument_mentions inputs outputs = joined (map mentions inputs) ++ joined (map path_mentions outputs)

-- ---- reads

-- what one layer of a statement reads, from what its arms, branches and blocks read; the condition of `until` is read behind its block
abbrev pub kind_reads : StmtKind-F (List Static) (List Static) (List Static) (List Static) → List Static
kind_reads (StmtKind-F.Declare k initial) = optional_mentions initial
kind_reads (StmtKind-F.Assign path e) = index_mentions path ++ mentions e
kind_reads (StmtKind-F.Call f inputs outputs) = argument_mentions inputs outputs
kind_reads (StmtKind-F.Await e) = mentions e
kind_reads (StmtKind-F.Run target a inputs outputs) = target_mentions target ++ argument_mentions inputs outputs
kind_reads (StmtKind-F.If arms other) = joined arms ++ joined other
kind_reads (StmtKind-F.Cobegin branches) = joined branches
kind_reads (StmtKind-F.When guard e body) = mentions e ++ joined body
kind_reads (StmtKind-F.Repeat body) = joined body
kind_reads (StmtKind-F.Until body e) = joined body ++ mentions e
kind_reads (StmtKind-F.While e body) = mentions e ++ joined body
kind_reads (StmtKind-F.Return e) = optional_mentions e

-- an arm of an `if` reads what its condition and its block read
abbrev pub arm_reads : Arm-F (List Static) (List Static) (List Static) (List Static) → List Static
arm_reads arm = mentions arm.test ++ joined arm.body

-- a branch reads, or writes, what its block does
abbrev pub branch_paths : Branch-F (List Static) (List Static) (List Static) (List Static) → List Static
branch_paths branch = joined branch.body

-- the paths of a statement as a set: what stands in it gives sets, and it has their union
abbrev pub stmt_set : Stmt-F (List Static) (List Static) (List Static) (List Static) → List Static
stmt_set s = set_of s.what

-- the static paths that a statement reads, in its expressions, the indices of its targets, its conditions and its blocks
abbrev pub reads : Stmt → List Static
reads = fold-Stmt (List Static) (List Static) (List Static) (List Static) kind_reads arm_reads branch_paths stmt_set

-- ---- writes

-- what one layer of a statement writes, from what its arms, branches and blocks write; a declaration writes its whole variable
abbrev pub kind_writes : StmtKind-F (List Static) (List Static) (List Static) (List Static) → List Static
kind_writes (StmtKind-F.Declare k initial) = whole k ∷ []
kind_writes (StmtKind-F.Assign path e) = static_of path ∷ []
kind_writes (StmtKind-F.Call f inputs outputs) = map static_of outputs
kind_writes (StmtKind-F.Await e) = []
kind_writes (StmtKind-F.Run target a inputs outputs) = target_static target ++ map static_of outputs
kind_writes (StmtKind-F.If arms other) = joined arms ++ joined other
kind_writes (StmtKind-F.Cobegin branches) = joined branches
kind_writes (StmtKind-F.When guard e body) = joined body
kind_writes (StmtKind-F.Repeat body) = joined body
kind_writes (StmtKind-F.Until body e) = joined body
kind_writes (StmtKind-F.While e body) = joined body
kind_writes (StmtKind-F.Return e) = []

-- an arm of an `if` writes what its block writes
abbrev pub arm_writes : Arm-F (List Static) (List Static) (List Static) (List Static) → List Static
arm_writes arm = joined arm.body

-- the set of the static paths that a statement writes: its target, outputs or variable, and with blocks all that stands in it
abbrev pub writes : Stmt → List Static
writes = fold-Stmt (List Static) (List Static) (List Static) (List Static) kind_writes arm_writes branch_paths stmt_set
