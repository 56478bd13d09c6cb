-- The functions that are called, by their positions, in source order and with repetition.
use Rattle.std.specs.Prelude.{ℕ, List, [], ◌∷◌, ◌++◌, map, Option, Some, None}
use Rattle.bl_tree.specs.declared.tree.Arm.{Arm, fold-Arm}
use Rattle.bl_tree.specs.declared.tree.Branch.{Branch, fold-Branch}
use Rattle.bl_tree.specs.declared.tree.Expr.{Expr, fold-Expr}
use Rattle.bl_tree.specs.declared.tree.ExprKind.TheOpen.{ExprKind-F, Part-F, Path-F, Expr-F}
use Rattle.bl_tree.specs.declared.tree.Part.{Part, fold-Part}
use Rattle.bl_tree.specs.declared.tree.Path.{Path, fold-Path}
use Rattle.bl_tree.specs.declared.tree.Stmt.{Stmt, fold-Stmt}
use Rattle.bl_tree.specs.declared.tree.StmtKind.TheOpen.{StmtKind-F, Arm-F, Branch-F, Stmt-F}
use Rattle.bl_tree.specs.declared.tree.Unit.{Unit as UnitDef}
use Rattle.bl_tree.specs.Reduce.{joined}

-- ---- expressions

-- the calls in a kind of expression, from those in its parts
abbrev pub kind_calls : ExprKind-F (List ℕ) (List ℕ) (List ℕ) (List ℕ) → List ℕ
kind_calls (ExprKind-F.Literal n s) = []
kind_calls (ExprKind-F.Read path) = path
kind_calls (ExprKind-F.Prev k) = []
kind_calls (ExprKind-F.One op a) = a
kind_calls (ExprKind-F.Two op a b) = a ++ b
kind_calls (ExprKind-F.Cast target a) = a
kind_calls (ExprKind-F.Call f inputs) = f ∷ joined inputs

-- the calls in a part of a path: those of an index
abbrev pub part_calls : Part-F (List ℕ) (List ℕ) (List ℕ) (List ℕ) → List ℕ
part_calls (Part-F.Field k) = []
part_calls (Part-F.Index e) = e

-- the calls in an expression are those in its kind
abbrev pub expr_layer_calls : Expr-F (List ℕ) (List ℕ) (List ℕ) (List ℕ) → List ℕ
expr_layer_calls e = e.what

-- the calls in a path are those in its parts
abbrev pub path_layer_calls : Path-F (List ℕ) (List ℕ) (List ℕ) (List ℕ) → List ℕ
path_layer_calls path = joined path.parts

-- the functions that an expression calls, those in the indices of its paths too
abbrev pub calls_in_expr : Expr → List ℕ
calls_in_expr = fold-Expr (List ℕ) (List ℕ) (List ℕ) (List ℕ) kind_calls part_calls expr_layer_calls path_layer_calls

-- the functions that the index of a part calls, where it is one
abbrev pub calls_in_part : Part → List ℕ
calls_in_part = fold-Part (List ℕ) (List ℕ) (List ℕ) (List ℕ) kind_calls part_calls expr_layer_calls path_layer_calls

-- the functions that the indices of a path call
abbrev pub calls_in_path : Path → List ℕ
calls_in_path = fold-Path (List ℕ) (List ℕ) (List ℕ) (List ℕ) kind_calls part_calls expr_layer_calls path_layer_calls

-- the functions that an expression calls, where there is one
abbrev pub optional_calls : Option Expr → List ℕ
optional_calls (Some e) = calls_in_expr e
optional_calls None = []

-- the functions that the indices of a target call, where there is one
abbrev pub target_calls : Option Path → List ℕ
target_calls (Some path) = calls_in_path path
target_calls None = []

-- the functions that are called in the arguments of a call or a `run`
abbrev pub argument_calls : List Expr → List Path → List ℕ
argument_calls inputs outputs = joined (map calls_in_expr inputs) ++ joined (map calls_in_path outputs)

-- ---- statements

-- the calls in a kind of statement, from those in its blocks
abbrev pub stmt_kind_calls : StmtKind-F (List ℕ) (List ℕ) (List ℕ) (List ℕ) → List ℕ
stmt_kind_calls (StmtKind-F.Declare k initial) = optional_calls initial
stmt_kind_calls (StmtKind-F.Assign path e) = calls_in_path path ++ calls_in_expr e
stmt_kind_calls (StmtKind-F.Call f inputs outputs) = f ∷ argument_calls inputs outputs
stmt_kind_calls (StmtKind-F.Await e) = calls_in_expr e
stmt_kind_calls (StmtKind-F.Run target a inputs outputs) = target_calls target ++ argument_calls inputs outputs
stmt_kind_calls (StmtKind-F.If arms other) = joined arms ++ joined other
stmt_kind_calls (StmtKind-F.Cobegin branches) = joined branches
stmt_kind_calls (StmtKind-F.When guard e body) = calls_in_expr e ++ joined body
stmt_kind_calls (StmtKind-F.Repeat body) = joined body
stmt_kind_calls (StmtKind-F.Until body e) = joined body ++ calls_in_expr e
stmt_kind_calls (StmtKind-F.While e body) = calls_in_expr e ++ joined body
stmt_kind_calls (StmtKind-F.Return e) = optional_calls e

-- the calls in an arm: those in its condition and in its statements
abbrev pub arm_calls : Arm-F (List ℕ) (List ℕ) (List ℕ) (List ℕ) → List ℕ
arm_calls arm = calls_in_expr arm.test ++ joined arm.body

-- the calls in a branch, from those in its statements
abbrev pub branch_calls : Branch-F (List ℕ) (List ℕ) (List ℕ) (List ℕ) → List ℕ
branch_calls branch = joined branch.body

-- the calls in a statement are those in its kind
abbrev pub stmt_layer_calls : Stmt-F (List ℕ) (List ℕ) (List ℕ) (List ℕ) → List ℕ
stmt_layer_calls s = s.what

-- the functions that are called in a statement: by it, in its conditions, arguments, indices and initial values, and in its blocks
abbrev pub calls_in : Stmt → List ℕ
calls_in = fold-Stmt (List ℕ) (List ℕ) (List ℕ) (List ℕ) stmt_kind_calls arm_calls branch_calls stmt_layer_calls

-- the functions that are called in an arm, in its condition too
abbrev pub calls_in_arm : Arm → List ℕ
calls_in_arm = fold-Arm (List ℕ) (List ℕ) (List ℕ) (List ℕ) stmt_kind_calls arm_calls branch_calls stmt_layer_calls

-- the functions that are called in a branch
abbrev pub calls_in_branch : Branch → List ℕ
calls_in_branch = fold-Branch (List ℕ) (List ℕ) (List ℕ) (List ℕ) stmt_kind_calls arm_calls branch_calls stmt_layer_calls

-- the functions that a unit calls
abbrev pub calls_of : UnitDef → List ℕ
calls_of unit = joined (map calls_in unit.body)
