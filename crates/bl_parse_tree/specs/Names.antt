-- Which trees are made of names, and have no list empty that the grammar wants filled.
use Rattle.std.specs.Prelude.{Bool, true, false, ◌&&◌, ◌||◌, is_some, List, [], ◌∷◌, Option, Some, None}
use Rattle.std.specs.List.{list_all}
use Rattle.bl_tree.specs.Reduce.{all_of}
use Rattle.bl_tree.specs.Words.{is_name}
use Rattle.bl_parse_tree.specs.declared.expr.RawExpr.{RawExpr, fold-RawExpr}
use Rattle.bl_parse_tree.specs.declared.expr.RawExprKind.TheOpen.{RawExprKind-F, RawPart-F, RawExpr-F, RawTarget-F}
use Rattle.bl_parse_tree.specs.declared.expr.RawTarget.{RawTarget, fold-RawTarget}
use Rattle.bl_parse_tree.specs.declared.item.RawField.{RawField}
use Rattle.bl_parse_tree.specs.declared.item.RawItem.{RawItem}
use Rattle.bl_parse_tree.specs.declared.item.RawItem.TheVariants.{Struct, Constant, Unit as UnitItem}
use Rattle.bl_parse_tree.specs.declared.item.RawParam.{RawParam}
use Rattle.bl_parse_tree.specs.declared.item.RawStruct.{RawStruct}
use Rattle.bl_parse_tree.specs.declared.item.RawUnit.{RawUnit}
use Rattle.bl_parse_tree.specs.declared.name.Name.{Name}
use Rattle.bl_parse_tree.specs.declared.stmt.RawConstant.{RawConstant}
use Rattle.bl_parse_tree.specs.declared.stmt.RawPath.{RawPath}
use Rattle.bl_parse_tree.specs.declared.stmt.RawStmt.{RawStmt, fold-RawStmt}
use Rattle.bl_parse_tree.specs.declared.stmt.RawStmtKind.TheOpen.{RawStmtKind-F, RawArm-F, RawBranch-F, RawStmt-F}
use Rattle.bl_parse_tree.specs.declared.types.RawLength.{RawLength}
use Rattle.bl_parse_tree.specs.declared.types.RawLength.TheVariants.{Number, Constant as OfConstant}
use Rattle.bl_parse_tree.specs.declared.types.RawType.{RawType, fold-RawType}
use Rattle.bl_parse_tree.specs.declared.types.RawType.TheOpen.{RawType-F}

-- whether the text of a name is one
abbrev pub named : Name → Bool
named name = is_name name.text

-- what is optional may be missing, and passes the test where it is there
abbrev pub optional : {A : Type 0} → (A → Bool) → Option A → Bool
optional test (Some x) = test x
optional test None = true

-- whether something stands in a list
abbrev pub is_filled : {A : Type 0} → List A → Bool
is_filled [] = false
is_filled (x ∷ xs) = true

-- ---- types

-- a length is a number, or the name of a constant
abbrev pub length_named : RawLength → Bool
length_named (Number n) = true
length_named (OfConstant name) = named name

-- whether every name in one layer of a type is a name, given those of its element
abbrev pub type_level_named : RawType-F Bool → Bool
type_level_named (RawType-F.Scalar s) = true
type_level_named (RawType-F.Struct name) = named name
type_level_named (RawType-F.Array n element) = length_named n && element

-- whether every name in a type is one
abbrev pub type_named : RawType → Bool
type_named = fold-RawType Bool type_level_named

-- ---- expressions

-- whether every name in one layer of an expression is a name, given those of its operands
abbrev pub kind_named : RawExprKind-F Bool Bool Bool Bool → Bool
kind_named (RawExprKind-F.Number minus n) = true
kind_named (RawExprKind-F.Truth b) = true
kind_named (RawExprKind-F.Read target) = target
kind_named (RawExprKind-F.Prev name) = named name
kind_named (RawExprKind-F.One op a) = a
kind_named (RawExprKind-F.Two op a b) = a && b
kind_named (RawExprKind-F.Cast s a) = a
kind_named (RawExprKind-F.Call f inputs) = named f && all_of inputs

-- whether the name of a field is a name, or every name in an index is
abbrev pub part_named : RawPart-F Bool Bool Bool Bool → Bool
part_named (RawPart-F.Field name) = named name
part_named (RawPart-F.Index e) = e

-- whether every name in an expression is a name, given those of its kind
abbrev pub expr_layer_named : RawExpr-F Bool Bool Bool Bool → Bool
expr_layer_named e = e.what

-- whether every name in a target is a name, its root's included
abbrev pub target_layer_named : RawTarget-F Bool Bool Bool Bool → Bool
target_layer_named target = named target.root && all_of target.parts

-- whether every name in an expression is one
abbrev pub expr_named : RawExpr → Bool
expr_named = fold-RawExpr Bool Bool Bool Bool kind_named part_named expr_layer_named target_layer_named

-- whether every name in a target is one
abbrev pub target_named : RawTarget → Bool
target_named = fold-RawTarget Bool Bool Bool Bool kind_named part_named expr_layer_named target_layer_named

-- whether every name in a path is one
abbrev pub path_named : RawPath → Bool
path_named path = named path.root && list_all named path.fields

-- ---- statements

-- whether the name of a constant is one, and every name in its type and its value
abbrev pub constant_named : RawConstant → Bool
constant_named constant = named constant.name && (optional type_named constant.ty && expr_named constant.value)

-- whether every name in the inputs and outputs of a call or `run` is one
abbrev pub arguments_named : List RawExpr → List RawPath → Bool
arguments_named inputs outputs = list_all expr_named inputs && list_all path_named outputs

-- whether one layer of a statement has names and parts where the grammar wants them, given its arms, branches and blocks
abbrev pub stmt_kind_stands : RawStmtKind-F Bool Bool Bool Bool → Bool
stmt_kind_stands (RawStmtKind-F.Var name ty value) =
    named name && (optional type_named ty && (optional expr_named value && (is_some ty || is_some value)))
stmt_kind_stands (RawStmtKind-F.Let name ty value) = named name && (optional type_named ty && expr_named value)
stmt_kind_stands (RawStmtKind-F.Const constant) = constant_named constant
stmt_kind_stands (RawStmtKind-F.Assign target e) = target_named target && expr_named e
stmt_kind_stands (RawStmtKind-F.Call f inputs outputs) = named f && arguments_named inputs outputs
stmt_kind_stands (RawStmtKind-F.Await e) = expr_named e
stmt_kind_stands (RawStmtKind-F.Run target a inputs outputs) = optional path_named target && (named a && arguments_named inputs outputs)
stmt_kind_stands (RawStmtKind-F.If arms other) = is_filled arms && (all_of arms && all_of other)
stmt_kind_stands (RawStmtKind-F.Cobegin branches) = is_filled branches && all_of branches
stmt_kind_stands (RawStmtKind-F.When guard e body) = expr_named e && all_of body
stmt_kind_stands (RawStmtKind-F.Repeat body) = all_of body
stmt_kind_stands (RawStmtKind-F.Until body e) = all_of body && expr_named e
stmt_kind_stands (RawStmtKind-F.While e body) = expr_named e && all_of body
stmt_kind_stands (RawStmtKind-F.Return e) = optional expr_named e

-- whether every name in the condition of an arm is one, and all statements of its block stand
abbrev pub arm_stands : RawArm-F Bool Bool Bool Bool → Bool
arm_stands arm = expr_named arm.test && all_of arm.body

-- whether all statements of a branch stand
abbrev pub branch_stands : RawBranch-F Bool Bool Bool Bool → Bool
branch_stands branch = all_of branch.body

-- a statement stands where its kind does, wherever its place is
abbrev pub stmt_layer_stands : RawStmt-F Bool Bool Bool Bool → Bool
stmt_layer_stands s = s.what

-- whether every name in a statement is one, each `if` has an arm, each `cobegin` a branch, and each `var` a type or a value
abbrev pub stmt_stands : RawStmt → Bool
stmt_stands = fold-RawStmt Bool Bool Bool Bool stmt_kind_stands arm_stands branch_stands stmt_layer_stands

-- ---- items

-- whether the name of a field is one, and every name in its type
abbrev pub field_named : RawField → Bool
field_named field = named field.name && type_named field.ty

-- whether every name in a struct is one, and it has a field
abbrev pub struct_stands : RawStruct → Bool
struct_stands def = named def.name && (is_filled def.fields && list_all field_named def.fields)

-- whether the name of a parameter is one, and every name in its type
abbrev pub param_named : RawParam → Bool
param_named param = named param.name && type_named param.ty

-- whether every name in a unit is one, and its statements stand
abbrev pub unit_stands : RawUnit → Bool
unit_stands unit =
    (named unit.name && (list_all param_named unit.inputs && list_all param_named unit.outputs))
    && (optional type_named unit.result && list_all stmt_stands unit.body)

-- whether every name in an item is one, and what the grammar wants filled is
abbrev pub item_stands : RawItem → Bool
item_stands (Struct def) = struct_stands def
item_stands (Constant constant) = constant_named constant
item_stands (UnitItem unit) = unit_stands unit
