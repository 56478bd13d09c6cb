-- The variables of which a body asks what they were when the tick began, by their positions, in source order and with repetition.
use Rattle.std.specs.Prelude.{ℕ, List, [], ◌∷◌, ◌++◌, map, Option, Some, None}
use Rattle.bl_tree.specs.declared.tree.Arm.{Arm, fold-Arm}
use Rattle.bl_tree.specs.declared.tree.Branch.{Branch, fold-Branch}
use Rattle.bl_tree.specs.declared.tree.Expr.{Expr, fold-Expr}
use Rattle.bl_tree.specs.declared.tree.ExprKind.TheOpen.{ExprKind-F, Part-F, Path-F, Expr-F}
use Rattle.bl_tree.specs.declared.tree.Part.{Part, fold-Part}
use Rattle.bl_tree.specs.declared.tree.Path.{Path, fold-Path}
use Rattle.bl_tree.specs.declared.tree.Stmt.{Stmt, fold-Stmt}
use Rattle.bl_tree.specs.declared.tree.StmtKind.TheOpen.{StmtKind-F, Arm-F, Branch-F, Stmt-F}
use Rattle.bl_tree.specs.declared.tree.Unit.{Unit as UnitDef}
use Rattle.bl_tree.specs.Reduce.{joined}

-- ---- expressions

-- the `prev`s in a kind of expression, from those in its parts
abbrev pub kind_prevs : ExprKind-F (List ℕ) (List ℕ) (List ℕ) (List ℕ) → List ℕ
kind_prevs (ExprKind-F.Literal n s) = []
kind_prevs (ExprKind-F.Read path) = path
kind_prevs (ExprKind-F.Prev k) = k ∷ []
kind_prevs (ExprKind-F.One op a) = a
kind_prevs (ExprKind-F.Two op a b) = a ++ b
kind_prevs (ExprKind-F.Cast target a) = a
kind_prevs (ExprKind-F.Call f inputs) = joined inputs

-- the `prev`s in a part of a path: those of an index
abbrev pub part_prevs : Part-F (List ℕ) (List ℕ) (List ℕ) (List ℕ) → List ℕ
part_prevs (Part-F.Field k) = []
part_prevs (Part-F.Index e) = e

-- the `prev`s in an expression are those in its kind
abbrev pub expr_layer_prevs : Expr-F (List ℕ) (List ℕ) (List ℕ) (List ℕ) → List ℕ
expr_layer_prevs e = e.what

-- the `prev`s in a path are those in its parts
abbrev pub path_layer_prevs : Path-F (List ℕ) (List ℕ) (List ℕ) (List ℕ) → List ℕ
path_layer_prevs path = joined path.parts

-- the variables under a `prev` in an expression, in the indices of its paths too
abbrev pub prevs_in_expr : Expr → List ℕ
prevs_in_expr = fold-Expr (List ℕ) (List ℕ) (List ℕ) (List ℕ) kind_prevs part_prevs expr_layer_prevs path_layer_prevs

-- the variables under a `prev` in the index of a part, if it has one
abbrev pub prevs_in_part : Part → List ℕ
prevs_in_part = fold-Part (List ℕ) (List ℕ) (List ℕ) (List ℕ) kind_prevs part_prevs expr_layer_prevs path_layer_prevs

-- the variables under a `prev` in the indices of a path
abbrev pub prevs_in_path : Path → List ℕ
prevs_in_path = fold-Path (List ℕ) (List ℕ) (List ℕ) (List ℕ) kind_prevs part_prevs expr_layer_prevs path_layer_prevs

-- the variables under a `prev` in an optional expression
abbrev pub optional_prevs : Option Expr → List ℕ
optional_prevs (Some e) = prevs_in_expr e
optional_prevs None = []

-- the variables under a `prev` in the indices of an optional target
abbrev pub target_prevs : Option Path → List ℕ
target_prevs (Some path) = prevs_in_path path
target_prevs None = []

-- the variables under a `prev` in the arguments of a call or a `run`
abbrev pub argument_prevs : List Expr → List Path → List ℕ
argument_prevs inputs outputs = joined (map prevs_in_expr inputs) ++ joined (map prevs_in_path outputs)

-- ---- statements

-- the `prev`s in a kind of statement, from those in its blocks
abbrev pub stmt_kind_prevs : StmtKind-F (List ℕ) (List ℕ) (List ℕ) (List ℕ) → List ℕ
stmt_kind_prevs (StmtKind-F.Declare k initial) = optional_prevs initial
stmt_kind_prevs (StmtKind-F.Assign path e) = prevs_in_path path ++ prevs_in_expr e
stmt_kind_prevs (StmtKind-F.Call f inputs outputs) = argument_prevs inputs outputs
stmt_kind_prevs (StmtKind-F.Await e) = prevs_in_expr e
stmt_kind_prevs (StmtKind-F.Run target a inputs outputs) = target_prevs target ++ argument_prevs inputs outputs
stmt_kind_prevs (StmtKind-F.If arms other) = joined arms ++ joined other
stmt_kind_prevs (StmtKind-F.Cobegin branches) = joined branches
stmt_kind_prevs (StmtKind-F.When guard e body) = prevs_in_expr e ++ joined body
stmt_kind_prevs (StmtKind-F.Repeat body) = joined body
stmt_kind_prevs (StmtKind-F.Until body e) = joined body ++ prevs_in_expr e
stmt_kind_prevs (StmtKind-F.While e body) = prevs_in_expr e ++ joined body
stmt_kind_prevs (StmtKind-F.Return e) = optional_prevs e

-- the `prev`s in an arm: those in its condition and in its statements
abbrev pub arm_prevs : Arm-F (List ℕ) (List ℕ) (List ℕ) (List ℕ) → List ℕ
arm_prevs arm = prevs_in_expr arm.test ++ joined arm.body

-- the `prev`s in a branch, from those in its statements
abbrev pub branch_prevs : Branch-F (List ℕ) (List ℕ) (List ℕ) (List ℕ) → List ℕ
branch_prevs branch = joined branch.body

-- the `prev`s in a statement are those in its kind
abbrev pub stmt_layer_prevs : Stmt-F (List ℕ) (List ℕ) (List ℕ) (List ℕ) → List ℕ
stmt_layer_prevs s = s.what

-- the variables under a `prev` in a statement: its conditions, arguments, indices, initial values and blocks
abbrev pub prevs_in : Stmt → List ℕ
prevs_in = fold-Stmt (List ℕ) (List ℕ) (List ℕ) (List ℕ) stmt_kind_prevs arm_prevs branch_prevs stmt_layer_prevs

-- the variables under a `prev` in an arm, its condition included
abbrev pub prevs_in_arm : Arm → List ℕ
prevs_in_arm = fold-Arm (List ℕ) (List ℕ) (List ℕ) (List ℕ) stmt_kind_prevs arm_prevs branch_prevs stmt_layer_prevs

-- the variables under a `prev` in a branch
abbrev pub prevs_in_branch : Branch → List ℕ
prevs_in_branch = fold-Branch (List ℕ) (List ℕ) (List ℕ) (List ℕ) stmt_kind_prevs arm_prevs branch_prevs stmt_layer_prevs

-- the variables under a `prev` in the body of a unit
abbrev pub prevs_of : UnitDef → List ℕ
prevs_of unit = joined (map prevs_in unit.body)
