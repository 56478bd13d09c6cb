-- Raw trees whose places are mapped.
use Rattle.std.specs.Prelude.{List, map, Option, option_map}
use Rattle.bl_tree.specs.declared.place.Place.{Place}
use Rattle.bl_parse_tree.specs.declared.expr.RawExpr.{RawExpr, fold-RawExpr, roll-RawExpr}
use Rattle.bl_parse_tree.specs.declared.expr.RawExprKind.{RawExprKind}
use Rattle.bl_parse_tree.specs.declared.expr.RawExprKind as kind
use Rattle.bl_parse_tree.specs.declared.expr.RawExprKind.TheOpen.{RawExprKind-F, RawPart-F, RawExpr-F, RawTarget-F}
use Rattle.bl_parse_tree.specs.declared.expr.RawPart.{RawPart}
use Rattle.bl_parse_tree.specs.declared.expr.RawPart as step
use Rattle.bl_parse_tree.specs.declared.expr.RawTarget.{RawTarget, fold-RawTarget, roll-RawTarget}
use Rattle.bl_parse_tree.specs.declared.item.RawField.{RawField}
use Rattle.bl_parse_tree.specs.declared.item.RawItem.{RawItem}
use Rattle.bl_parse_tree.specs.declared.item.RawItem.TheVariants.{Struct, Constant, Unit as UnitItem}
use Rattle.bl_parse_tree.specs.declared.item.RawParam.{RawParam}
use Rattle.bl_parse_tree.specs.declared.item.RawStruct.{RawStruct}
use Rattle.bl_parse_tree.specs.declared.item.RawUnit.{RawUnit}
use Rattle.bl_parse_tree.specs.declared.name.Name.{Name}
use Rattle.bl_parse_tree.specs.declared.stmt.RawArm.{RawArm, roll-RawArm}
use Rattle.bl_parse_tree.specs.declared.stmt.RawBranch.{RawBranch, roll-RawBranch}
use Rattle.bl_parse_tree.specs.declared.stmt.RawConstant.{RawConstant}
use Rattle.bl_parse_tree.specs.declared.stmt.RawPath.{RawPath}
use Rattle.bl_parse_tree.specs.declared.stmt.RawStmt.{RawStmt, fold-RawStmt, roll-RawStmt}
use Rattle.bl_parse_tree.specs.declared.stmt.RawStmtKind.{RawStmtKind}
use Rattle.bl_parse_tree.specs.declared.stmt.RawStmtKind as action
use Rattle.bl_parse_tree.specs.declared.stmt.RawStmtKind.TheOpen.{RawStmtKind-F, RawArm-F, RawBranch-F, RawStmt-F}
use Rattle.bl_parse_tree.specs.declared.types.RawLength.{RawLength}
use Rattle.bl_parse_tree.specs.declared.types.RawLength.TheVariants.{Number, Constant as OfConstant}
use Rattle.bl_parse_tree.specs.declared.types.RawType.{RawType, fold-RawType}
use Rattle.bl_parse_tree.specs.declared.types.RawType as form
use Rattle.bl_parse_tree.specs.declared.types.RawType.TheOpen.{RawType-F}

-- a name at the mapped place
abbrev pub placed_name : (Place → Place) → Name → Name
placed_name f name = record { text = name.text; place = f name.place }

-- ---- types

-- a length with its place mapped
abbrev pub placed_length : (Place → Place) → RawLength → RawLength
placed_length f (Number n) = RawLength.Number (record { place = f n.place; value = n.value })
placed_length f (OfConstant name) = RawLength.Constant (placed_name f name)

-- a layer of a type with its places mapped, from its mapped element
abbrev pub placed_type_level : (Place → Place) → RawType-F RawType → RawType
placed_type_level f (RawType-F.Scalar s) = form.Scalar s
placed_type_level f (RawType-F.Struct name) = form.Struct (placed_name f name)
placed_type_level f (RawType-F.Array n element) = form.Array (placed_length f n) element

-- a type with all places mapped
abbrev pub placed_type : (Place → Place) → RawType → RawType
placed_type f = fold-RawType RawType (placed_type_level f)

-- ---- expressions

-- a layer of an expression with its places mapped, from its mapped parts
abbrev pub placed_kind : (Place → Place) → RawExprKind-F RawExprKind RawPart RawExpr RawTarget → RawExprKind
placed_kind f (RawExprKind-F.Number minus n) = kind.Number minus n
placed_kind f (RawExprKind-F.Truth b) = kind.Truth b
placed_kind f (RawExprKind-F.Read target) = kind.Read target
placed_kind f (RawExprKind-F.Prev name) = kind.Prev (placed_name f name)
placed_kind f (RawExprKind-F.One op a) = kind.One op a
placed_kind f (RawExprKind-F.Two op a b) = kind.Two op a b
placed_kind f (RawExprKind-F.Cast s a) = kind.Cast s a
placed_kind f (RawExprKind-F.Call name inputs) = kind.Call (placed_name f name) inputs

-- a part of a place in memory with its places mapped, from its mapped index
abbrev pub placed_part : (Place → Place) → RawPart-F RawExprKind RawPart RawExpr RawTarget → RawPart
placed_part f (RawPart-F.Field name) = step.Field (placed_name f name)
placed_part f (RawPart-F.Index e) = step.Index e

-- an expression at the mapped place, from its mapped kind
abbrev pub placed_expr_layer : (Place → Place) → RawExpr-F RawExprKind RawPart RawExpr RawTarget → RawExpr
placed_expr_layer f e = roll-RawExpr (record { place = f e.place; what = e.what })

-- a target at the mapped place, from its mapped parts
abbrev pub placed_target_layer : (Place → Place) → RawTarget-F RawExprKind RawPart RawExpr RawTarget → RawTarget
placed_target_layer f target = roll-RawTarget (record { place = f target.place; root = placed_name f target.root; parts = target.parts })

-- an expression with all places mapped
abbrev pub placed_expr : (Place → Place) → RawExpr → RawExpr
placed_expr f = fold-RawExpr RawExprKind RawPart RawExpr RawTarget (placed_kind f) (placed_part f) (placed_expr_layer f) (placed_target_layer f)

-- a target with all places mapped
abbrev pub placed_target : (Place → Place) → RawTarget → RawTarget
placed_target f = fold-RawTarget RawExprKind RawPart RawExpr RawTarget (placed_kind f) (placed_part f) (placed_expr_layer f) (placed_target_layer f)

-- a path with all places mapped
abbrev pub placed_path : (Place → Place) → RawPath → RawPath
placed_path f path = record { place = f path.place; root = placed_name f path.root; fields = map (placed_name f) path.fields }

-- ---- statements

-- a constant with all places mapped
abbrev pub placed_constant : (Place → Place) → RawConstant → RawConstant
placed_constant f constant = record {
  name = placed_name f constant.name;
  ty = option_map (placed_type f) constant.ty;
  value = placed_expr f constant.value;
}

-- a layer of a statement with its places mapped, from its mapped arms, branches and blocks
abbrev pub placed_action : (Place → Place) → RawStmtKind-F RawStmtKind RawArm RawBranch RawStmt → RawStmtKind
placed_action f (RawStmtKind-F.Var name ty value) =
    action.Var (placed_name f name) (option_map (placed_type f) ty) (option_map (placed_expr f) value)
placed_action f (RawStmtKind-F.Let name ty value) = action.Let (placed_name f name) (option_map (placed_type f) ty) (placed_expr f value)
placed_action f (RawStmtKind-F.Const constant) = action.Const (placed_constant f constant)
placed_action f (RawStmtKind-F.Assign target e) = action.Assign (placed_target f target) (placed_expr f e)
placed_action f (RawStmtKind-F.Call name inputs outputs) = action.Call (placed_name f name) (map (placed_expr f) inputs) (map (placed_path f) outputs)
placed_action f (RawStmtKind-F.Await e) = action.Await (placed_expr f e)
placed_action f (RawStmtKind-F.Run target name inputs outputs) =
    action.Run (option_map (placed_path f) target) (placed_name f name) (map (placed_expr f) inputs) (map (placed_path f) outputs)
placed_action f (RawStmtKind-F.If arms other) = action.If arms other
placed_action f (RawStmtKind-F.Cobegin branches) = action.Cobegin branches
placed_action f (RawStmtKind-F.When guard e body) = action.When guard (placed_expr f e) body
placed_action f (RawStmtKind-F.Repeat body) = action.Repeat body
placed_action f (RawStmtKind-F.Until body e) = action.Until body (placed_expr f e)
placed_action f (RawStmtKind-F.While e body) = action.While (placed_expr f e) body
placed_action f (RawStmtKind-F.Return e) = action.Return (option_map (placed_expr f) e)

-- an arm with its places mapped, from its mapped block
abbrev pub placed_arm : (Place → Place) → RawArm-F RawStmtKind RawArm RawBranch RawStmt → RawArm
placed_arm f arm = roll-RawArm (record { test = placed_expr f arm.test; body = arm.body })

-- a branch, from its mapped block
abbrev pub placed_branch : RawBranch-F RawStmtKind RawArm RawBranch RawStmt → RawBranch
placed_branch branch = roll-RawBranch (record { weak = branch.weak; body = branch.body })

-- a statement at the mapped place, from its mapped kind
abbrev pub placed_stmt_layer : (Place → Place) → RawStmt-F RawStmtKind RawArm RawBranch RawStmt → RawStmt
placed_stmt_layer f s = roll-RawStmt (record { place = f s.place; what = s.what })

-- a statement with all places mapped
abbrev pub placed_stmt : (Place → Place) → RawStmt → RawStmt
placed_stmt f = fold-RawStmt RawStmtKind RawArm RawBranch RawStmt (placed_action f) (placed_arm f) placed_branch (placed_stmt_layer f)

-- ---- items

-- a field with all places mapped
abbrev pub placed_field : (Place → Place) → RawField → RawField
placed_field f field = record { name = placed_name f field.name; ty = placed_type f field.ty }

-- a struct with all places mapped
abbrev pub placed_struct : (Place → Place) → RawStruct → RawStruct
placed_struct f def = record { name = placed_name f def.name; fields = map (placed_field f) def.fields }

-- a parameter with all places mapped
abbrev pub placed_param : (Place → Place) → RawParam → RawParam
placed_param f param = record { name = placed_name f param.name; ty = placed_type f param.ty }

-- a unit with all places mapped
abbrev pub placed_unit : (Place → Place) → RawUnit → RawUnit
placed_unit f unit = record {
  entry = unit.entry;
  kind = unit.kind;
  name = placed_name f unit.name;
  inputs = map (placed_param f) unit.inputs;
  outputs = map (placed_param f) unit.outputs;
  result = option_map (placed_type f) unit.result;
  body = map (placed_stmt f) unit.body;
}

-- an item with all places mapped
abbrev pub placed_item : (Place → Place) → RawItem → RawItem
placed_item f (Struct def) = Struct (placed_struct f def)
placed_item f (Constant constant) = Constant (placed_constant f constant)
placed_item f (UnitItem unit) = UnitItem (placed_unit f unit)
