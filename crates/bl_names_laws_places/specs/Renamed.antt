-- Named trees whose places are mapped and whose constants have other positions.
use Rattle.std.specs.Prelude.{ℕ, List, map, Option, option_map}
use Rattle.bl_tree.specs.declared.place.Place.{Place}
use Rattle.bl_joined.specs.Trees.{placed_name}
use Rattle.bl_names_tree.specs.declared.expr.NamedExpr.{NamedExpr, fold-NamedExpr, roll-NamedExpr}
use Rattle.bl_names_tree.specs.declared.expr.NamedExprKind.{NamedExprKind}
use Rattle.bl_names_tree.specs.declared.expr.NamedExprKind.TheOpen.{NamedExprKind-F, NamedPart-F, NamedExpr-F, NamedTarget-F}
use Rattle.bl_names_tree.specs.declared.expr.NamedExprKind.TheVariants as what
use Rattle.bl_names_tree.specs.declared.expr.NamedPart.{NamedPart}
use Rattle.bl_names_tree.specs.declared.expr.NamedPart.TheVariants as part
use Rattle.bl_names_tree.specs.declared.expr.NamedTarget.{NamedTarget, fold-NamedTarget, roll-NamedTarget}
use Rattle.bl_names_tree.specs.declared.expr.Root.{Root}
use Rattle.bl_names_tree.specs.declared.expr.Root.TheVariants as root
use Rattle.bl_names_tree.specs.declared.item.NamedConstant.{NamedConstant}
use Rattle.bl_names_tree.specs.declared.item.NamedField.{NamedField}
use Rattle.bl_names_tree.specs.declared.item.NamedStruct.{NamedStruct}
use Rattle.bl_names_tree.specs.declared.item.NamedUnit.{NamedUnit}
use Rattle.bl_names_tree.specs.declared.item.NamedVar.{NamedVar}
use Rattle.bl_names_tree.specs.declared.stmt.NamedArm.{NamedArm, roll-NamedArm}
use Rattle.bl_names_tree.specs.declared.stmt.NamedBranch.{NamedBranch, roll-NamedBranch}
use Rattle.bl_names_tree.specs.declared.stmt.NamedPath.{NamedPath}
use Rattle.bl_names_tree.specs.declared.stmt.NamedStmt.{NamedStmt, fold-NamedStmt, roll-NamedStmt}
use Rattle.bl_names_tree.specs.declared.stmt.NamedStmtKind.{NamedStmtKind}
use Rattle.bl_names_tree.specs.declared.stmt.NamedStmtKind.TheOpen.{NamedStmtKind-F, NamedArm-F, NamedBranch-F, NamedStmt-F}
use Rattle.bl_names_tree.specs.declared.stmt.NamedStmtKind.TheVariants as action
use Rattle.bl_names_tree.specs.declared.types.NamedLength.{NamedLength}
use Rattle.bl_names_tree.specs.declared.types.NamedLength.TheVariants as count
use Rattle.bl_names_tree.specs.declared.types.NamedType.{NamedType, fold-NamedType}
use Rattle.bl_names_tree.specs.declared.types.NamedType.TheOpen.{NamedType-F}
use Rattle.bl_names_tree.specs.declared.types.NamedType.TheVariants as type

-- what is changed of a named tree: places by a map, and the positions of constants by another
pub record Renaming : Type 0 where
  pub place : Place → Place
  pub constant : ℕ → ℕ

-- ---- types

-- a length with its place mapped, or the constant for which it stands at its other position
abbrev pub renamed_length : Renaming → NamedLength → NamedLength
renamed_length by (count.Number n) = count.Number (record { place = by.place n.place; value = n.value })
renamed_length by (count.Constant place k) = count.Constant (by.place place) (by.constant k)

-- a layer of a type, from its changed element
abbrev pub renamed_type_level : Renaming → NamedType-F NamedType → NamedType
renamed_type_level by (NamedType-F.Scalar s) = type.Scalar s
renamed_type_level by (NamedType-F.Struct k) = type.Struct k
renamed_type_level by (NamedType-F.Array n element) = type.Array (renamed_length by n) element

-- a type with all places and constants changed
abbrev pub renamed_type : Renaming → NamedType → NamedType
renamed_type by = fold-NamedType NamedType (renamed_type_level by)

-- ---- expressions

-- a root, where a constant has its other position
abbrev pub renamed_root : Renaming → Root → Root
renamed_root by (root.Variable k) = root.Variable k
renamed_root by (root.Constant k) = root.Constant (by.constant k)

-- a layer of an expression, from its changed operands
abbrev pub renamed_kind : Renaming → NamedExprKind-F NamedExprKind NamedPart NamedExpr NamedTarget → NamedExprKind
renamed_kind by (NamedExprKind-F.Number minus n) = what.Number minus n
renamed_kind by (NamedExprKind-F.Truth b) = what.Truth b
renamed_kind by (NamedExprKind-F.Read target) = what.Read target
renamed_kind by (NamedExprKind-F.Prev k) = what.Prev k
renamed_kind by (NamedExprKind-F.One op a) = what.One op a
renamed_kind by (NamedExprKind-F.Two op a b) = what.Two op a b
renamed_kind by (NamedExprKind-F.Cast s a) = what.Cast s a
renamed_kind by (NamedExprKind-F.Call place k inputs) = what.Call (by.place place) k inputs

-- a part of a target, from its changed index
abbrev pub renamed_part : Renaming → NamedPart-F NamedExprKind NamedPart NamedExpr NamedTarget → NamedPart
renamed_part by (NamedPart-F.Field name) = part.Field (placed_name by.place name)
renamed_part by (NamedPart-F.Index e) = part.Index e

-- an expression at the mapped place, from its changed kind
abbrev pub renamed_expr_layer : Renaming → NamedExpr-F NamedExprKind NamedPart NamedExpr NamedTarget → NamedExpr
renamed_expr_layer by e = roll-NamedExpr (record { place = by.place e.place; what = e.what })

-- a target at the mapped place, from its changed parts
abbrev pub renamed_target_layer : Renaming → NamedTarget-F NamedExprKind NamedPart NamedExpr NamedTarget → NamedTarget
renamed_target_layer by target =
    roll-NamedTarget (record { place = by.place target.place; root = renamed_root by target.root; parts = target.parts })

-- an expression with all places and constants changed
abbrev pub renamed_expr : Renaming → NamedExpr → NamedExpr
renamed_expr by =
    fold-NamedExpr NamedExprKind NamedPart NamedExpr NamedTarget (renamed_kind by) (renamed_part by) (renamed_expr_layer by) (renamed_target_layer by)

-- a target with all places and constants changed
abbrev pub renamed_target : Renaming → NamedTarget → NamedTarget
renamed_target by =
    fold-NamedTarget NamedExprKind NamedPart NamedExpr NamedTarget (renamed_kind by) (renamed_part by) (renamed_expr_layer by)
    (renamed_target_layer by)

-- a path with all places mapped
abbrev pub renamed_path : Renaming → NamedPath → NamedPath
renamed_path by path = record { place = by.place path.place; root = path.root; fields = map (placed_name by.place) path.fields }

-- ---- statements

-- a layer of a statement, from its changed arms, branches and blocks
abbrev pub renamed_action : Renaming → NamedStmtKind-F NamedStmtKind NamedArm NamedBranch NamedStmt → NamedStmtKind
renamed_action by (NamedStmtKind-F.Declare k value) = action.Declare k (option_map (renamed_expr by) value)
renamed_action by (NamedStmtKind-F.Const k) = action.Const (by.constant k)
renamed_action by (NamedStmtKind-F.Assign target e) = action.Assign (renamed_target by target) (renamed_expr by e)
renamed_action by (NamedStmtKind-F.Call place k inputs outputs) =
    action.Call (by.place place) k (map (renamed_expr by) inputs) (map (renamed_path by) outputs)
renamed_action by (NamedStmtKind-F.Await e) = action.Await (renamed_expr by e)
renamed_action by (NamedStmtKind-F.Run target place k inputs outputs) =
    action.Run (option_map (renamed_path by) target) (by.place place) k (map (renamed_expr by) inputs) (map (renamed_path by) outputs)
renamed_action by (NamedStmtKind-F.If arms other) = action.If arms other
renamed_action by (NamedStmtKind-F.Cobegin branches) = action.Cobegin branches
renamed_action by (NamedStmtKind-F.When guard e body) = action.When guard (renamed_expr by e) body
renamed_action by (NamedStmtKind-F.Repeat body) = action.Repeat body
renamed_action by (NamedStmtKind-F.Until body e) = action.Until body (renamed_expr by e)
renamed_action by (NamedStmtKind-F.While e body) = action.While (renamed_expr by e) body
renamed_action by (NamedStmtKind-F.Return e) = action.Return (option_map (renamed_expr by) e)

-- an arm, from its changed block
abbrev pub renamed_arm : Renaming → NamedArm-F NamedStmtKind NamedArm NamedBranch NamedStmt → NamedArm
renamed_arm by arm = roll-NamedArm (record { test = renamed_expr by arm.test; body = arm.body })

-- a branch, from its changed block
abbrev pub renamed_branch : NamedBranch-F NamedStmtKind NamedArm NamedBranch NamedStmt → NamedBranch
renamed_branch branch = roll-NamedBranch (record { weak = branch.weak; body = branch.body })

-- a statement at the mapped place, from its changed kind
abbrev pub renamed_stmt_layer : Renaming → NamedStmt-F NamedStmtKind NamedArm NamedBranch NamedStmt → NamedStmt
renamed_stmt_layer by s = roll-NamedStmt (record { place = by.place s.place; what = s.what })

-- a statement with all places and constants changed
abbrev pub renamed_stmt : Renaming → NamedStmt → NamedStmt
renamed_stmt by =
    fold-NamedStmt NamedStmtKind NamedArm NamedBranch NamedStmt (renamed_action by) (renamed_arm by) renamed_branch (renamed_stmt_layer by)

-- ---- items

-- a field with all places and constants changed
abbrev pub renamed_field : Renaming → NamedField → NamedField
renamed_field by field = record { name = placed_name by.place field.name; ty = renamed_type by field.ty }

-- a struct with all places and constants changed
abbrev pub renamed_struct : Renaming → NamedStruct → NamedStruct
renamed_struct by def = record { name = placed_name by.place def.name; fields = map (renamed_field by) def.fields }

-- a constant with all places and constants in it changed
abbrev pub renamed_constant : Renaming → NamedConstant → NamedConstant
renamed_constant by constant = record {
  name = placed_name by.place constant.name;
  ty = option_map (renamed_type by) constant.ty;
  value = renamed_expr by constant.value;
}

-- a variable with all places and constants changed
abbrev pub renamed_var : Renaming → NamedVar → NamedVar
renamed_var by var = record { name = placed_name by.place var.name; ty = option_map (renamed_type by) var.ty; role = var.role }

-- a unit with all places and constants changed
abbrev pub renamed_unit : Renaming → NamedUnit → NamedUnit
renamed_unit by unit = record {
  entry = unit.entry;
  kind = unit.kind;
  name = placed_name by.place unit.name;
  vars = map (renamed_var by) unit.vars;
  inputs = unit.inputs;
  outputs = unit.outputs;
  result = option_map (renamed_type by) unit.result;
  body = map (renamed_stmt by) unit.body;
}
