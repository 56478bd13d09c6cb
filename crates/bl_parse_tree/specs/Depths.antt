-- How deep a tree is nested.
use Rattle.std.specs.Prelude.{ℕ, ◌+◌, max, Bool, true, ◌&&◌, nat_le, List, ◌∷◌, map, Option, Some, None}
use Rattle.bl_tree.specs.Depths.{Depth, leaf, of_all, block}
use Rattle.bl_tree.specs.Reduce.{greatest}
use Rattle.bl_parse_tree.specs.declared.expr.RawExpr.{RawExpr, fold-RawExpr}
use Rattle.bl_parse_tree.specs.declared.expr.RawExprKind.TheOpen.{RawExprKind-F, RawPart-F, RawExpr-F, RawTarget-F}
use Rattle.bl_parse_tree.specs.declared.expr.RawTarget.{RawTarget, fold-RawTarget}
use Rattle.bl_parse_tree.specs.declared.item.RawItem.{RawItem}
use Rattle.bl_parse_tree.specs.declared.item.RawItem.TheVariants.{Struct, Constant, Unit as UnitItem}
use Rattle.bl_parse_tree.specs.declared.stmt.RawStmt.{RawStmt, fold-RawStmt}
use Rattle.bl_parse_tree.specs.declared.stmt.RawStmtKind.TheOpen.{RawStmtKind-F, RawArm-F, RawBranch-F, RawStmt-F}

-- the depth of one layer of an expression: an operator, cast or call is one deeper than its deepest operand
abbrev pub kind_depth : RawExprKind-F ℕ ℕ ℕ ℕ → ℕ
kind_depth (RawExprKind-F.Number minus n) = 0
kind_depth (RawExprKind-F.Truth b) = 0
kind_depth (RawExprKind-F.Read target) = target
kind_depth (RawExprKind-F.Prev name) = 0
kind_depth (RawExprKind-F.One op a) = 1 + a
kind_depth (RawExprKind-F.Two op a b) = 1 + max a b
kind_depth (RawExprKind-F.Cast s a) = 1 + a
kind_depth (RawExprKind-F.Call f inputs) = 1 + greatest inputs

-- a field has no depth; an index is one deeper than its expression
abbrev pub part_depth : RawPart-F ℕ ℕ ℕ ℕ → ℕ
part_depth (RawPart-F.Field name) = 0
part_depth (RawPart-F.Index e) = 1 + e

-- an expression is as deep as its kind, wherever it stands
abbrev pub expr_layer_depth : RawExpr-F ℕ ℕ ℕ ℕ → ℕ
expr_layer_depth e = e.what

-- a target is as deep as the deepest of its indices
abbrev pub target_layer_depth : RawTarget-F ℕ ℕ ℕ ℕ → ℕ
target_layer_depth target = greatest target.parts

-- the most operators, casts, calls and indexes that stand inside one another
abbrev pub expr_depth : RawExpr → ℕ
expr_depth = fold-RawExpr ℕ ℕ ℕ ℕ kind_depth part_depth expr_layer_depth target_layer_depth

-- the most operators, casts, calls and indexes inside one another in a target
abbrev pub target_depth : RawTarget → ℕ
target_depth = fold-RawTarget ℕ ℕ ℕ ℕ kind_depth part_depth expr_layer_depth target_layer_depth

-- the depth of an expression, and 0 where there is none
abbrev pub optional_depth : Option RawExpr → ℕ
optional_depth (Some e) = expr_depth e
optional_depth None = 0

-- the depth of one layer of a statement, from those of its arms, branches and blocks; a missing `else` counts as an empty block
abbrev pub stmt_kind_depth : RawStmtKind-F Depth Depth Depth Depth → Depth
stmt_kind_depth (RawStmtKind-F.Var name ty value) = leaf (optional_depth value)
stmt_kind_depth (RawStmtKind-F.Let name ty value) = leaf (expr_depth value)
stmt_kind_depth (RawStmtKind-F.Const constant) = leaf (expr_depth constant.value)
stmt_kind_depth (RawStmtKind-F.Assign target e) = leaf (max (target_depth target) (expr_depth e))
stmt_kind_depth (RawStmtKind-F.Call f inputs outputs) = leaf (greatest (map expr_depth inputs))
stmt_kind_depth (RawStmtKind-F.Await e) = leaf (expr_depth e)
stmt_kind_depth (RawStmtKind-F.Run target a inputs outputs) = leaf (greatest (map expr_depth inputs))
stmt_kind_depth (RawStmtKind-F.If arms other) = of_all (block 0 other ∷ arms)
stmt_kind_depth (RawStmtKind-F.Cobegin branches) = of_all branches
stmt_kind_depth (RawStmtKind-F.When guard e body) = block (expr_depth e) body
stmt_kind_depth (RawStmtKind-F.Repeat body) = block 0 body
stmt_kind_depth (RawStmtKind-F.Until body e) = block (expr_depth e) body
stmt_kind_depth (RawStmtKind-F.While e body) = block (expr_depth e) body
stmt_kind_depth (RawStmtKind-F.Return e) = leaf (optional_depth e)

-- an arm of an `if` is a block with its condition beside it
abbrev pub arm_depth : RawArm-F Depth Depth Depth Depth → Depth
arm_depth arm = block (expr_depth arm.test) arm.body

-- a branch is a block
abbrev pub branch_depth : RawBranch-F Depth Depth Depth Depth → Depth
branch_depth branch = block 0 branch.body

-- a statement is as deep as its kind, wherever it stands
abbrev pub stmt_layer_depth : RawStmt-F Depth Depth Depth Depth → Depth
stmt_layer_depth s = s.what

-- the depths of the blocks of a statement and of the expressions in it
abbrev pub depth_of : RawStmt → Depth
depth_of = fold-RawStmt Depth Depth Depth Depth stmt_kind_depth arm_depth branch_depth stmt_layer_depth

-- whether blocks nest at most 100 deep, that of the unit and empty ones included, and expressions at most 200 deep
abbrev pub is_shallow : List RawStmt → Bool
is_shallow body = nat_le (block 0 (map depth_of body)).blocks 100 && nat_le (of_all (map depth_of body)).exprs 200

-- whether nothing in an item is nested deeper than rule Depth lets it be
abbrev pub item_shallow : RawItem → Bool
item_shallow (Struct def) = true
item_shallow (Constant constant) = nat_le (expr_depth constant.value) 200
item_shallow (UnitItem unit) = is_shallow unit.body
