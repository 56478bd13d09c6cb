-- How deep a tree is nested.
use Rattle.std.specs.Prelude.{ℕ, ◌+◌, max, Bool, ◌&&◌, nat_le, List, ◌∷◌, map, Option, Some, None}
use Rattle.bl_tree.specs.declared.tree.Expr.{Expr, fold-Expr}
use Rattle.bl_tree.specs.declared.tree.ExprKind.TheOpen.{ExprKind-F, Part-F, Path-F, Expr-F}
use Rattle.bl_tree.specs.declared.tree.Path.{Path, fold-Path}
use Rattle.bl_tree.specs.declared.tree.Stmt.{Stmt, fold-Stmt}
use Rattle.bl_tree.specs.declared.tree.StmtKind.TheOpen.{StmtKind-F, Arm-F, Branch-F, Stmt-F}
use Rattle.bl_tree.specs.Reduce.{greatest}

-- the depth of one layer of an expression: an operator, cast or call is one deeper than its deepest operand
abbrev pub kind_depth : ExprKind-F ℕ ℕ ℕ ℕ → ℕ
kind_depth (ExprKind-F.Literal n s) = 0
kind_depth (ExprKind-F.Read path) = path
kind_depth (ExprKind-F.Prev k) = 0
kind_depth (ExprKind-F.One op a) = 1 + a
kind_depth (ExprKind-F.Two op a b) = 1 + max a b
kind_depth (ExprKind-F.Cast target a) = 1 + a
kind_depth (ExprKind-F.Call f inputs) = 1 + greatest inputs

-- a field has no depth; an index is one deeper than its expression
abbrev pub part_depth : Part-F ℕ ℕ ℕ ℕ → ℕ
part_depth (Part-F.Field k) = 0
part_depth (Part-F.Index e) = 1 + e

-- an expression is as deep as its kind, wherever it stands
abbrev pub expr_layer_depth : Expr-F ℕ ℕ ℕ ℕ → ℕ
expr_layer_depth e = e.what

-- a path is as deep as the deepest of its indices
abbrev pub path_layer_depth : Path-F ℕ ℕ ℕ ℕ → ℕ
path_layer_depth path = greatest path.parts

-- the most operators, casts, calls and indexes that stand inside one another
abbrev pub expr_depth : Expr → ℕ
expr_depth = fold-Expr ℕ ℕ ℕ ℕ kind_depth part_depth expr_layer_depth path_layer_depth

-- the most operators, casts, calls and indexes inside one another in a path
abbrev pub path_depth : Path → ℕ
path_depth = fold-Path ℕ ℕ ℕ ℕ kind_depth part_depth expr_layer_depth path_layer_depth

-- the depth of an expression, and 0 where there is none
abbrev pub optional_depth : Option Expr → ℕ
optional_depth (Some e) = expr_depth e
optional_depth None = 0

-- the depth of the target of a `run`, and 0 where there is none
abbrev pub target_depth : Option Path → ℕ
target_depth (Some path) = path_depth path
target_depth None = 0

-- the depth of the deepest input or output of a call or `run`
abbrev pub arguments_depth : List Expr → List Path → ℕ
arguments_depth inputs outputs = max (greatest (map expr_depth inputs)) (greatest (map path_depth outputs))

-- the nesting depth of blocks, and the depth of the expressions in them
pub record Depth : Type 0 where
  pub blocks : ℕ
  pub exprs : ℕ

-- the depth of a statement without blocks
abbrev pub leaf : ℕ → Depth
leaf exprs = record { blocks = 0; exprs = exprs }

-- the greatest depths of parts that stand beside one another
abbrev pub of_all : List Depth → Depth
of_all depths = record { blocks = greatest (map (λ d. d.blocks) depths); exprs = greatest (map (λ d. d.exprs) depths) }

-- a block with an expression beside it: the condition at its head or end
abbrev pub block : ℕ → List Depth → Depth
block head body = record { blocks = 1 + (of_all body).blocks; exprs = max head (of_all body).exprs }

-- the depth of one layer of a statement, from those of its arms, branches and blocks; a missing `else` counts as an empty block
abbrev pub stmt_kind_depth : StmtKind-F Depth Depth Depth Depth → Depth
stmt_kind_depth (StmtKind-F.Declare k initial) = leaf (optional_depth initial)
stmt_kind_depth (StmtKind-F.Assign path e) = leaf (max (path_depth path) (expr_depth e))
stmt_kind_depth (StmtKind-F.Call f inputs outputs) = leaf (arguments_depth inputs outputs)
stmt_kind_depth (StmtKind-F.Await e) = leaf (expr_depth e)
stmt_kind_depth (StmtKind-F.Run target a inputs outputs) = leaf (max (target_depth target) (arguments_depth inputs outputs))
stmt_kind_depth (StmtKind-F.If arms other) = of_all (block 0 other ∷ arms)
stmt_kind_depth (StmtKind-F.Cobegin branches) = of_all branches
stmt_kind_depth (StmtKind-F.When guard e body) = block (expr_depth e) body
stmt_kind_depth (StmtKind-F.Repeat body) = block 0 body
stmt_kind_depth (StmtKind-F.Until body e) = block (expr_depth e) body
stmt_kind_depth (StmtKind-F.While e body) = block (expr_depth e) body
stmt_kind_depth (StmtKind-F.Return e) = leaf (optional_depth e)

-- an arm of an `if` is a block with its condition beside it
abbrev pub arm_depth : Arm-F Depth Depth Depth Depth → Depth
arm_depth arm = block (expr_depth arm.test) arm.body

-- a branch is a block
abbrev pub branch_depth : Branch-F Depth Depth Depth Depth → Depth
branch_depth branch = block 0 branch.body

-- a statement is as deep as its kind, wherever it stands
abbrev pub stmt_layer_depth : Stmt-F Depth Depth Depth Depth → Depth
stmt_layer_depth s = s.what

-- the depths of the blocks of a statement and of the expressions in it
abbrev pub depth_of : Stmt → Depth
depth_of = fold-Stmt Depth Depth Depth Depth stmt_kind_depth arm_depth branch_depth stmt_layer_depth

-- whether blocks nest at most so deep, that of the unit and empty ones included, and expressions at most 200 deep
abbrev pub is_shallow : ℕ → List Stmt → Bool
is_shallow most body = nat_le (block 0 (map depth_of body)).blocks most && nat_le (of_all (map depth_of body)).exprs 200
