-- How deep a named tree is nested.
use Rattle.std.specs.Prelude.{ℕ, ◌+◌, max, Bool, ◌&&◌, nat_le, List, ◌∷◌, map, Option, Some, None}
use Rattle.bl_tree.specs.Depths.{Depth, leaf, of_all, block}
use Rattle.bl_tree.specs.Reduce.{greatest}
use Rattle.bl_names_tree.specs.declared.expr.NamedExpr.{NamedExpr, fold-NamedExpr}
use Rattle.bl_names_tree.specs.declared.expr.NamedExprKind.TheOpen.{NamedExprKind-F, NamedPart-F, NamedExpr-F, NamedTarget-F}
use Rattle.bl_names_tree.specs.declared.expr.NamedTarget.{NamedTarget, fold-NamedTarget}
use Rattle.bl_names_tree.specs.declared.stmt.NamedStmt.{NamedStmt, fold-NamedStmt}
use Rattle.bl_names_tree.specs.declared.stmt.NamedStmtKind.TheOpen.{NamedStmtKind-F, NamedArm-F, NamedBranch-F, NamedStmt-F}

-- the depth of one layer of an expression: an operator, cast or call is one deeper than its deepest operand
abbrev pub kind_depth : NamedExprKind-F ℕ ℕ ℕ ℕ → ℕ
kind_depth (NamedExprKind-F.Number minus n) = 0
kind_depth (NamedExprKind-F.Truth b) = 0
kind_depth (NamedExprKind-F.Read target) = target
kind_depth (NamedExprKind-F.Prev k) = 0
kind_depth (NamedExprKind-F.One op a) = 1 + a
kind_depth (NamedExprKind-F.Two op a b) = 1 + max a b
kind_depth (NamedExprKind-F.Cast s a) = 1 + a
kind_depth (NamedExprKind-F.Call at f inputs) = 1 + greatest inputs

-- a field has no depth; an index is one deeper than its expression
abbrev pub part_depth : NamedPart-F ℕ ℕ ℕ ℕ → ℕ
part_depth (NamedPart-F.Field name) = 0
part_depth (NamedPart-F.Index e) = 1 + e

-- an expression is as deep as its kind, wherever it stands
abbrev pub expr_layer_depth : NamedExpr-F ℕ ℕ ℕ ℕ → ℕ
expr_layer_depth e = e.what

-- a target is as deep as the deepest of its indices
abbrev pub target_layer_depth : NamedTarget-F ℕ ℕ ℕ ℕ → ℕ
target_layer_depth target = greatest target.parts

-- the most operators, casts, calls and indexes that stand inside one another
abbrev pub expr_depth : NamedExpr → ℕ
expr_depth = fold-NamedExpr ℕ ℕ ℕ ℕ kind_depth part_depth expr_layer_depth target_layer_depth

-- the most operators, casts, calls and indexes inside one another in a target
abbrev pub target_depth : NamedTarget → ℕ
target_depth = fold-NamedTarget ℕ ℕ ℕ ℕ kind_depth part_depth expr_layer_depth target_layer_depth

-- the depth of an expression, and 0 where there is none
abbrev pub optional_depth : Option NamedExpr → ℕ
optional_depth (Some e) = expr_depth e
optional_depth None = 0

-- a constant of a block is no statement of the typed program
abbrev pub stmt_kind_depth : NamedStmtKind-F Depth Depth Depth Depth → Depth
stmt_kind_depth (NamedStmtKind-F.Declare k value) = leaf (optional_depth value)
stmt_kind_depth (NamedStmtKind-F.Const k) = leaf 0
stmt_kind_depth (NamedStmtKind-F.Assign target e) = leaf (max (target_depth target) (expr_depth e))
stmt_kind_depth (NamedStmtKind-F.Call at f inputs outputs) = leaf (greatest (map expr_depth inputs))
stmt_kind_depth (NamedStmtKind-F.Await e) = leaf (expr_depth e)
stmt_kind_depth (NamedStmtKind-F.Run target at a inputs outputs) = leaf (greatest (map expr_depth inputs))
stmt_kind_depth (NamedStmtKind-F.If arms other) = of_all (block 0 other ∷ arms)
stmt_kind_depth (NamedStmtKind-F.Cobegin branches) = of_all branches
stmt_kind_depth (NamedStmtKind-F.When guard e body) = block (expr_depth e) body
stmt_kind_depth (NamedStmtKind-F.Repeat body) = block 0 body
stmt_kind_depth (NamedStmtKind-F.Until body e) = block (expr_depth e) body
stmt_kind_depth (NamedStmtKind-F.While e body) = block (expr_depth e) body
stmt_kind_depth (NamedStmtKind-F.Return e) = leaf (optional_depth e)

-- an arm of an `if` is a block with its condition beside it
abbrev pub arm_depth : NamedArm-F Depth Depth Depth Depth → Depth
arm_depth arm = block (expr_depth arm.test) arm.body

-- a branch is a block
abbrev pub branch_depth : NamedBranch-F Depth Depth Depth Depth → Depth
branch_depth branch = block 0 branch.body

-- a statement is as deep as its kind, wherever it stands
abbrev pub stmt_layer_depth : NamedStmt-F Depth Depth Depth Depth → Depth
stmt_layer_depth s = s.what

-- the depths of the blocks of a statement and of the expressions in it
abbrev pub depth_of : NamedStmt → Depth
depth_of = fold-NamedStmt Depth Depth Depth Depth stmt_kind_depth arm_depth branch_depth stmt_layer_depth

-- whether blocks nest at most 100 deep, that of the unit and empty ones included, and expressions at most 200 deep
abbrev pub is_shallow : List NamedStmt → Bool
is_shallow body = nat_le (block 0 (map depth_of body)).blocks 100 && nat_le (of_all (map depth_of body)).exprs 200
