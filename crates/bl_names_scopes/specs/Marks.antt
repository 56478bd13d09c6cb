-- What a program does to names, in the order in which it takes effect: a declaration stands where the name becomes visible.
use Rattle.std.specs.Prelude.{List, [], ◌∷◌, ◌++◌, map, Option, Some, None}
use Rattle.bl_tree.specs.declared.tree.UnitKind.{UnitKind}
use Rattle.bl_tree.specs.declared.tree.UnitKind.TheVariants as unit
use Rattle.bl_tree.specs.Reduce.{joined}
use Rattle.bl_parse_tree.specs.declared.expr.RawExpr.{RawExpr, fold-RawExpr}
use Rattle.bl_parse_tree.specs.declared.expr.RawExprKind.TheOpen.{RawExprKind-F, RawPart-F, RawExpr-F, RawTarget-F}
use Rattle.bl_parse_tree.specs.declared.expr.RawPart.{RawPart, fold-RawPart}
use Rattle.bl_parse_tree.specs.declared.expr.RawTarget.{RawTarget, fold-RawTarget}
use Rattle.bl_parse_tree.specs.declared.item.RawField.{RawField}
use Rattle.bl_parse_tree.specs.declared.item.RawItem.{RawItem}
use Rattle.bl_parse_tree.specs.declared.item.RawItem.TheVariants as item
use Rattle.bl_parse_tree.specs.declared.item.RawParam.{RawParam}
use Rattle.bl_parse_tree.specs.declared.item.RawStruct.{RawStruct}
use Rattle.bl_parse_tree.specs.declared.item.RawUnit.{RawUnit}
use Rattle.bl_parse_tree.specs.declared.name.Name.{Name}
use Rattle.bl_parse_tree.specs.declared.stmt.RawArm.{RawArm, fold-RawArm}
use Rattle.bl_parse_tree.specs.declared.stmt.RawBranch.{RawBranch, fold-RawBranch}
use Rattle.bl_parse_tree.specs.declared.stmt.RawConstant.{RawConstant}
use Rattle.bl_parse_tree.specs.declared.stmt.RawPath.{RawPath}
use Rattle.bl_parse_tree.specs.declared.stmt.RawStmt.{RawStmt, fold-RawStmt}
use Rattle.bl_parse_tree.specs.declared.stmt.RawStmtKind.TheOpen.{RawStmtKind-F, RawArm-F, RawBranch-F, RawStmt-F}
use Rattle.bl_parse_tree.specs.declared.types.RawLength.{RawLength}
use Rattle.bl_parse_tree.specs.declared.types.RawLength.TheVariants as raw_length
use Rattle.bl_parse_tree.specs.declared.types.RawType.{RawType, fold-RawType}
use Rattle.bl_parse_tree.specs.declared.types.RawType.TheOpen.{RawType-F}
use Rattle.bl_names_scopes.specs.declared.kind.Kind.{Kind}
use Rattle.bl_names_scopes.specs.declared.kind.Kind.TheVariants as kind
use Rattle.bl_names_scopes.specs.declared.kind.Wanted.{Wanted}
use Rattle.bl_names_scopes.specs.declared.kind.Wanted.TheVariants as wanted

-- a scope begins or ends, a name is declared, or a name is used where this is wanted
pub data Mark : Type 0 where
  opens : Mark
  closes : Mark
  declares : Name → Kind → Mark
  uses : Name → Wanted → Mark

-- what a part of a program does to names, in the order in which it takes effect
abbrev pub Marks : Type 0
Marks = List Mark

-- what stands in a scope of its own
abbrev pub in_scope : Marks → Marks
in_scope marks = opens ∷ (marks ++ (closes ∷ []))

-- what is optional does nothing where it is missing
abbrev pub optional : {A : Type 0} → (A → Marks) → Option A → Marks
optional marks (Some x) = marks x
optional marks None = []

-- ---- types

-- a length uses the name of a constant, or no name
abbrev pub length_marks : RawLength → Marks
length_marks (raw_length.Number n) = []
length_marks (raw_length.Constant name) = uses name wanted.Length ∷ []

-- the names that one level of a type uses, from those of its element
abbrev pub type_level_marks : RawType-F Marks → Marks
type_level_marks (RawType-F.Scalar s) = []
type_level_marks (RawType-F.Struct name) = uses name wanted.Type ∷ []
type_level_marks (RawType-F.Array n element) = length_marks n ++ element

-- the structs and lengths that a type names
abbrev pub type_marks : RawType → Marks
type_marks = fold-RawType Marks type_level_marks

-- ---- expressions

-- the names that one layer of an expression uses, from those of its operands
abbrev pub kind_marks : RawExprKind-F Marks Marks Marks (Wanted → Marks) → Marks
kind_marks (RawExprKind-F.Number minus n) = []
kind_marks (RawExprKind-F.Truth b) = []
kind_marks (RawExprKind-F.Read target) = target wanted.Value
kind_marks (RawExprKind-F.Prev name) = uses name wanted.Variable ∷ []
kind_marks (RawExprKind-F.One op a) = a
kind_marks (RawExprKind-F.Two op a b) = a ++ b
kind_marks (RawExprKind-F.Cast s a) = a
kind_marks (RawExprKind-F.Call f inputs) = uses f wanted.Function ∷ joined inputs

-- the names of fields belong to types
abbrev pub part_marks : RawPart-F Marks Marks Marks (Wanted → Marks) → Marks
part_marks (RawPart-F.Field name) = []
part_marks (RawPart-F.Index e) = e

-- an expression uses what its kind uses, wherever it stands
abbrev pub expr_layer_marks : RawExpr-F Marks Marks Marks (Wanted → Marks) → Marks
expr_layer_marks e = e.what

-- a target uses the name with which it begins, of which this is needed, and then what its indices use
abbrev pub target_layer_marks : RawTarget-F Marks Marks Marks (Wanted → Marks) → Wanted → Marks
target_layer_marks target needed = uses target.root needed ∷ joined target.parts

-- the names that an expression uses
abbrev pub expr_marks : RawExpr → Marks
expr_marks = fold-RawExpr Marks Marks Marks (Wanted → Marks) kind_marks part_marks expr_layer_marks target_layer_marks

-- the names that a target uses, where this is wanted of its first
abbrev pub target_marks : RawTarget → Wanted → Marks
target_marks = fold-RawTarget Marks Marks Marks (Wanted → Marks) kind_marks part_marks expr_layer_marks target_layer_marks

-- the names that a part of a target uses
abbrev pub marks_of_part : RawPart → Marks
marks_of_part = fold-RawPart Marks Marks Marks (Wanted → Marks) kind_marks part_marks expr_layer_marks target_layer_marks

-- a path uses the name with which it begins, which must be a variable
abbrev pub path_marks : RawPath → Marks
path_marks path = uses path.root wanted.Variable ∷ []

-- ---- statements

-- the names that the inputs and then the outputs of a call or `run` use
abbrev pub argument_marks : List RawExpr → List RawPath → Marks
argument_marks inputs outputs = joined (map expr_marks inputs) ++ joined (map path_marks outputs)

-- a name is visible after what stands in its declaration
abbrev pub declared_after : Marks → Name → Kind → Marks
declared_after marks name kind = marks ++ (declares name kind ∷ [])

-- a constant is visible after its value
abbrev pub constant_marks : RawConstant → Marks
constant_marks constant = declared_after (optional type_marks constant.ty ++ expr_marks constant.value) constant.name kind.Constant

-- a variable is visible after its initial value; the condition of `until` sees the names around its loop
abbrev pub stmt_kind_marks : RawStmtKind-F Marks Marks Marks Marks → Marks
stmt_kind_marks (RawStmtKind-F.Var name ty value) = declared_after (optional type_marks ty ++ optional expr_marks value) name kind.Variable
stmt_kind_marks (RawStmtKind-F.Let name ty value) = declared_after (optional type_marks ty ++ expr_marks value) name kind.Variable
stmt_kind_marks (RawStmtKind-F.Const constant) = constant_marks constant
stmt_kind_marks (RawStmtKind-F.Assign target e) = target_marks target wanted.Variable ++ expr_marks e
stmt_kind_marks (RawStmtKind-F.Call f inputs outputs) = uses f wanted.Function ∷ argument_marks inputs outputs
stmt_kind_marks (RawStmtKind-F.Await e) = expr_marks e
stmt_kind_marks (RawStmtKind-F.Run target a inputs outputs) = optional path_marks target ++ (uses a wanted.Activity ∷ argument_marks inputs outputs)
stmt_kind_marks (RawStmtKind-F.If arms other) = joined arms ++ in_scope (joined other)
stmt_kind_marks (RawStmtKind-F.Cobegin branches) = joined branches
stmt_kind_marks (RawStmtKind-F.When guard e body) = expr_marks e ++ in_scope (joined body)
stmt_kind_marks (RawStmtKind-F.Repeat body) = in_scope (joined body)
stmt_kind_marks (RawStmtKind-F.Until body e) = in_scope (joined body) ++ expr_marks e
stmt_kind_marks (RawStmtKind-F.While e body) = expr_marks e ++ in_scope (joined body)
stmt_kind_marks (RawStmtKind-F.Return e) = optional expr_marks e

-- the condition of an arm sees the names around it, and its block is a scope
abbrev pub arm_layer_marks : RawArm-F Marks Marks Marks Marks → Marks
arm_layer_marks arm = expr_marks arm.test ++ in_scope (joined arm.body)

-- a branch is a scope
abbrev pub branch_layer_marks : RawBranch-F Marks Marks Marks Marks → Marks
branch_layer_marks branch = in_scope (joined branch.body)

-- a statement does to names what its kind does, wherever it stands
abbrev pub stmt_layer_marks : RawStmt-F Marks Marks Marks Marks → Marks
stmt_layer_marks s = s.what

-- what a statement does to names; each arm, branch, loop body and guarded body is a scope
abbrev pub stmt_marks : RawStmt → Marks
stmt_marks = fold-RawStmt Marks Marks Marks Marks stmt_kind_marks arm_layer_marks branch_layer_marks stmt_layer_marks

-- what an arm does to names
abbrev pub marks_of_arm : RawArm → Marks
marks_of_arm = fold-RawArm Marks Marks Marks Marks stmt_kind_marks arm_layer_marks branch_layer_marks stmt_layer_marks

-- what a branch does to names, all that stands in it included
abbrev pub marks_of_branch : RawBranch → Marks
marks_of_branch = fold-RawBranch Marks Marks Marks Marks stmt_kind_marks arm_layer_marks branch_layer_marks stmt_layer_marks

-- ---- items

-- the names that the type of a field uses
abbrev pub field_type_marks : RawField → Marks
field_type_marks field = type_marks field.ty

-- the mark of a field: a declaration among the fields of its struct
abbrev pub field_mark : RawField → Mark
field_mark field = declares field.name kind.Field

-- the fields are declared in a scope that holds no use, and the struct is visible after them
abbrev pub struct_marks : RawStruct → Marks
struct_marks def = declared_after (joined (map field_type_marks def.fields) ++ in_scope (map field_mark def.fields)) def.name kind.Struct

-- a parameter is visible after its type
abbrev pub param_marks : RawParam → Marks
param_marks param = declared_after (type_marks param.ty) param.name kind.Variable

-- the kind of declaration of a unit's name
abbrev pub kind_of_unit : UnitKind → Kind
kind_of_unit unit.Function = kind.Function
kind_of_unit unit.Activity = kind.Activity

-- the parameters and the statements directly in the body
abbrev pub inside_unit : RawUnit → Marks
inside_unit def =
    joined (map param_marks def.inputs) ++ (joined (map param_marks def.outputs) ++ (optional type_marks def.result ++ joined (map stmt_marks def.body)))

-- what a unit does to names: its parameters and body share one scope, and its name is visible after it
abbrev pub unit_marks : RawUnit → Marks
unit_marks def = declared_after (in_scope (inside_unit def)) def.name (kind_of_unit def.kind)

-- what an item does to names
abbrev pub item_marks : RawItem → Marks
item_marks (item.Struct def) = struct_marks def
item_marks (item.Constant constant) = constant_marks constant
item_marks (item.Unit def) = unit_marks def

-- what a program does to names
abbrev pub marks_of : List RawItem → Marks
marks_of items = joined (map item_marks items)
