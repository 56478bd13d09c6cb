-- Where the positions in a named tree stand for something: each is that of what is declared before its use.
use Rattle.std.specs.Prelude.{◌≡◌, ℕ, ◌+◌, Bool, true, false, ◌&&◌, ◌||◌, nat_eq, nat_lt, nat_le, List, [], ◌∷◌, map, length, take, drop, slice_get, Option}
use Rattle.std.specs.Prelude.{Some, None, option_and_then, if◌then◌else◌}
use Rattle.std.specs.List.{list_all}
use Rattle.bl_tree.specs.Program.{is_input, is_output}
use Rattle.bl_tree.specs.Reduce.{all_of}
use Rattle.bl_tree.specs.Typing.{is_fixed, is_variable}
use Rattle.bl_names_tree.specs.declared.expr.NamedExpr.{NamedExpr, fold-NamedExpr}
use Rattle.bl_names_tree.specs.declared.expr.NamedExprKind.TheOpen.{NamedExprKind-F, NamedPart-F, NamedExpr-F, NamedTarget-F}
use Rattle.bl_names_tree.specs.declared.expr.NamedTarget.{NamedTarget, fold-NamedTarget}
use Rattle.bl_names_tree.specs.declared.expr.Root.{Root}
use Rattle.bl_names_tree.specs.declared.expr.Root.TheVariants as root
use Rattle.bl_names_tree.specs.declared.item.Item.{Item}
use Rattle.bl_names_tree.specs.declared.item.Item.TheVariants as item
use Rattle.bl_names_tree.specs.declared.item.NamedConstant.{NamedConstant}
use Rattle.bl_names_tree.specs.declared.item.NamedStruct.{NamedStruct}
use Rattle.bl_names_tree.specs.declared.item.NamedUnit.{NamedUnit}
use Rattle.bl_names_tree.specs.declared.item.NamedVar.{NamedVar}
use Rattle.bl_names_tree.specs.declared.named.Named.{Named}
use Rattle.bl_names_tree.specs.declared.stmt.NamedPath.{NamedPath}
use Rattle.bl_names_tree.specs.declared.stmt.NamedStmt.{NamedStmt, fold-NamedStmt}
use Rattle.bl_names_tree.specs.declared.stmt.NamedStmtKind.TheOpen.{NamedStmtKind-F, NamedArm-F, NamedBranch-F, NamedStmt-F}
use Rattle.bl_names_tree.specs.declared.types.NamedLength.{NamedLength}
use Rattle.bl_names_tree.specs.declared.types.NamedLength.TheVariants as count
use Rattle.bl_names_tree.specs.declared.types.NamedType.{NamedType, fold-NamedType}
use Rattle.bl_names_tree.specs.declared.types.NamedType.TheOpen.{NamedType-F}

-- the numbers of structs, constants and units of the program, and of variables of the unit, declared before a place
pub record DeclaredBefore : Type 0 where
  pub structs : ℕ
  pub constants : ℕ
  pub units : ℕ
  pub variables : ℕ

-- the counts at the start of a program, where nothing is declared
abbrev pub nothing_earlier : DeclaredBefore
nothing_earlier = record { structs = 0; constants = 0; units = 0; variables = 0 }

-- what must be there, and passes the test
abbrev pub holds_of : {A : Type 0} → (A → Bool) → Option A → Bool
holds_of test (Some x) = test x
holds_of test None = false

-- what is optional may be missing
abbrev pub holds_if : {A : Type 0} → (A → Bool) → Option A → Bool
holds_if test (Some x) = test x
holds_if test None = true

-- ---- types

-- whether the constant that a length names is an earlier one
abbrev pub length_placed : DeclaredBefore → NamedLength → Bool
length_placed earlier (count.Number n) = true
length_placed earlier (count.Constant at k) = nat_lt k earlier.constants

-- whether the structs and constants that one level of a type names are earlier ones, where those of its element are
abbrev pub type_level_placed : DeclaredBefore → NamedType-F Bool → Bool
type_level_placed earlier (NamedType-F.Scalar s) = true
type_level_placed earlier (NamedType-F.Struct k) = nat_lt k earlier.structs
type_level_placed earlier (NamedType-F.Array n element) = length_placed earlier n && element

-- whether the structs and constants that a type names are earlier ones
abbrev pub type_placed : DeclaredBefore → NamedType → Bool
type_placed earlier = fold-NamedType Bool (type_level_placed earlier)

-- ---- expressions

-- whether the variable or constant with which a target begins is an earlier one
abbrev pub root_placed : DeclaredBefore → Root → Bool
root_placed earlier (root.Variable k) = nat_lt k earlier.variables
root_placed earlier (root.Constant k) = nat_lt k earlier.constants

-- whether what one layer of an expression names is earlier, where what its operands name is
abbrev pub kind_placed : DeclaredBefore → NamedExprKind-F Bool Bool Bool Bool → Bool
kind_placed earlier (NamedExprKind-F.Number minus n) = true
kind_placed earlier (NamedExprKind-F.Truth b) = true
kind_placed earlier (NamedExprKind-F.Read target) = target
kind_placed earlier (NamedExprKind-F.Prev k) = nat_lt k earlier.variables
kind_placed earlier (NamedExprKind-F.One op a) = a
kind_placed earlier (NamedExprKind-F.Two op a b) = a && b
kind_placed earlier (NamedExprKind-F.Cast s a) = a
kind_placed earlier (NamedExprKind-F.Call at f inputs) = nat_lt f earlier.units && all_of inputs

-- the names of fields belong to types; an index is placed where its expression is
abbrev pub part_placed : NamedPart-F Bool Bool Bool Bool → Bool
part_placed (NamedPart-F.Field name) = true
part_placed (NamedPart-F.Index e) = e

-- an expression is placed where its kind is, wherever it stands
abbrev pub expr_layer_placed : NamedExpr-F Bool Bool Bool Bool → Bool
expr_layer_placed e = e.what

-- a target is placed where its root and all of its indices are
abbrev pub target_layer_placed : DeclaredBefore → NamedTarget-F Bool Bool Bool Bool → Bool
target_layer_placed earlier target = root_placed earlier target.root && all_of target.parts

-- whether the variables, constants and units that an expression names are earlier ones
abbrev pub expr_placed : DeclaredBefore → NamedExpr → Bool
expr_placed earlier = fold-NamedExpr Bool Bool Bool Bool (kind_placed earlier) part_placed expr_layer_placed (target_layer_placed earlier)

-- whether the variables, constants and units that a target names are earlier ones
abbrev pub target_placed : DeclaredBefore → NamedTarget → Bool
target_placed earlier = fold-NamedTarget Bool Bool Bool Bool (kind_placed earlier) part_placed expr_layer_placed (target_layer_placed earlier)

-- whether the variable with which a path begins is an earlier one
abbrev pub path_placed : DeclaredBefore → NamedPath → Bool
path_placed earlier path = nat_lt path.root earlier.variables

-- ---- declarations

-- whether what the type of a variable names is earlier, where a type is written
abbrev pub var_placed : DeclaredBefore → NamedVar → Bool
var_placed earlier var = holds_if (type_placed earlier) var.ty

-- whether what the type and the value of a constant name is earlier
abbrev pub constant_placed : DeclaredBefore → NamedConstant → Bool
constant_placed earlier constant = holds_if (type_placed earlier) constant.ty && expr_placed earlier constant.value

-- whether what the types of a struct's fields name is earlier
abbrev pub struct_placed : DeclaredBefore → NamedStruct → Bool
struct_placed earlier def = list_all (λ field. type_placed earlier field.ty) def.fields

-- ---- parts that may declare

-- a step from what is declared before a part to what is declared after it; none at an unknown position
abbrev pub PlacedStep : Type 0
PlacedStep = DeclaredBefore → Option DeclaredBefore

-- the steps of several parts, one after another
abbrev pub in_turn : List PlacedStep → PlacedStep
in_turn [] earlier = Some earlier
in_turn (step ∷ rest) earlier = option_and_then (in_turn rest) (step earlier)

-- the counts after one more variable of the unit
abbrev pub with_variable : DeclaredBefore → DeclaredBefore
with_variable earlier = record earlier { variables = earlier.variables + 1 }

-- the counts after one more constant of the program
abbrev pub with_constant : DeclaredBefore → DeclaredBefore
with_constant earlier = record earlier { constants = earlier.constants + 1 }

-- a part that declares nothing
abbrev pub declares_none : Bool → PlacedStep
declares_none placed earlier = if placed then Some earlier else None

-- whether the unit that is called or run is an earlier one, and what its inputs and outputs name is earlier
abbrev pub arguments_placed : DeclaredBefore → ℕ → List NamedExpr → List NamedPath → Bool
arguments_placed earlier f inputs outputs = nat_lt f earlier.units && (list_all (expr_placed earlier) inputs && list_all (path_placed earlier) outputs)

-- the test is one where the body is
abbrev pub tested : NamedExpr → List PlacedStep → PlacedStep
tested e body earlier = if expr_placed earlier e then in_turn body earlier else None

-- the step of one layer of a statement: a variable and a constant are declared at the next position
abbrev pub stmt_kind_step : List NamedVar → List NamedConstant → NamedStmtKind-F PlacedStep PlacedStep PlacedStep PlacedStep → PlacedStep
stmt_kind_step vars constants (NamedStmtKind-F.Declare k value) earlier =
    if nat_eq k earlier.variables && (holds_of (var_placed earlier) (slice_get vars k) && holds_if (expr_placed earlier) value)
    then Some (with_variable earlier) else None
stmt_kind_step vars constants (NamedStmtKind-F.Const k) earlier =
    if nat_eq k earlier.constants && holds_of (constant_placed earlier) (slice_get constants k) then Some (with_constant earlier) else None
stmt_kind_step vars constants (NamedStmtKind-F.Assign target e) earlier = declares_none (target_placed earlier target && expr_placed earlier e) earlier
stmt_kind_step vars constants (NamedStmtKind-F.Call at f inputs outputs) earlier = declares_none (arguments_placed earlier f inputs outputs) earlier
stmt_kind_step vars constants (NamedStmtKind-F.Await e) earlier = declares_none (expr_placed earlier e) earlier
stmt_kind_step vars constants (NamedStmtKind-F.Run target at a inputs outputs) earlier =
    declares_none (holds_if (path_placed earlier) target && arguments_placed earlier a inputs outputs) earlier
stmt_kind_step vars constants (NamedStmtKind-F.If arms other) earlier = option_and_then (in_turn other) (in_turn arms earlier)
stmt_kind_step vars constants (NamedStmtKind-F.Cobegin branches) earlier = in_turn branches earlier
stmt_kind_step vars constants (NamedStmtKind-F.When guard e body) earlier = tested e body earlier
stmt_kind_step vars constants (NamedStmtKind-F.Repeat body) earlier = in_turn body earlier
stmt_kind_step vars constants (NamedStmtKind-F.Until body e) earlier = tested e body earlier
stmt_kind_step vars constants (NamedStmtKind-F.While e body) earlier = tested e body earlier
stmt_kind_step vars constants (NamedStmtKind-F.Return e) earlier = declares_none (holds_if (expr_placed earlier) e) earlier

-- an arm of an `if`: its condition and then its block
abbrev pub arm_step : NamedArm-F PlacedStep PlacedStep PlacedStep PlacedStep → PlacedStep
arm_step arm = tested arm.test arm.body

-- a branch: its block
abbrev pub branch_step : NamedBranch-F PlacedStep PlacedStep PlacedStep PlacedStep → PlacedStep
branch_step branch = in_turn branch.body

-- a statement declares what its kind does, wherever it stands
abbrev pub stmt_layer_step : NamedStmt-F PlacedStep PlacedStep PlacedStep PlacedStep → PlacedStep
stmt_layer_step s = s.what

-- the step of a statement, from what is declared before it to what is declared after it
abbrev pub stmt_step : List NamedVar → List NamedConstant → NamedStmt → PlacedStep
stmt_step vars constants = fold-NamedStmt PlacedStep PlacedStep PlacedStep PlacedStep (stmt_kind_step vars constants) arm_step branch_step stmt_layer_step

-- ---- items

-- the number of parameters of a unit, which stand first among its variables
abbrev pub parameters : NamedUnit → ℕ
parameters unit = unit.inputs + unit.outputs

-- whether the inputs stand first, then the outputs, then what the body declares
abbrev pub roles_placed : NamedUnit → Bool
roles_placed unit =
    nat_le (parameters unit) (length unit.vars)
    && (list_all (λ var. is_input var.role) (take unit.inputs unit.vars)
    && (list_all (λ var. is_output var.role) (take unit.outputs (drop unit.inputs unit.vars))
    && list_all (λ var. is_variable var.role || is_fixed var.role) (drop (parameters unit) unit.vars)))

-- whether the variables of a unit are ordered by role, and its parameters and result have types declared earlier
abbrev pub head_placed : DeclaredBefore → NamedUnit → Bool
head_placed earlier unit =
    roles_placed unit && (list_all (var_placed earlier) (take (parameters unit) unit.vars) && holds_if (type_placed earlier) unit.result)

-- the parameters are declared before the body
abbrev pub with_parameters : DeclaredBefore → NamedUnit → DeclaredBefore
with_parameters earlier unit = record earlier { variables = parameters unit }

-- what is declared after a unit whose variables are all declared; the next unit's are counted anew
abbrev pub behind_unit : NamedUnit → DeclaredBefore → Option DeclaredBefore
behind_unit unit earlier =
    if nat_eq earlier.variables (length unit.vars) then Some (record earlier { units = earlier.units + 1; variables = 0 }) else None

-- a unit: its head, then its body, in which every variable must be declared
abbrev pub unit_step : List NamedConstant → NamedUnit → PlacedStep
unit_step constants unit earlier =
    if head_placed earlier unit
    then option_and_then (behind_unit unit) (in_turn (map (stmt_step unit.vars constants) unit.body) (with_parameters earlier unit))
    else None

-- the next struct, constant or unit of a program
abbrev pub item_step : Named → Item → PlacedStep
item_step named item.Struct earlier =
    if holds_of (struct_placed earlier) (slice_get named.structs earlier.structs) then Some (record earlier { structs = earlier.structs + 1 }) else None
item_step named item.Constant earlier =
    if holds_of (constant_placed earlier) (slice_get named.constants earlier.constants) then Some (with_constant earlier) else None
item_step named item.Unit earlier = option_and_then (λ def. unit_step named.constants def earlier) (slice_get named.units earlier.units)

-- all that a program has
abbrev pub all_earlier : Named → DeclaredBefore
all_earlier named = record { structs = length named.structs; constants = length named.constants; units = length named.units; variables = 0 }

-- each position in a program, in order of its items, is of something declared before, and everything is declared once
abbrev pub IsPlaced : Named → Type 0
IsPlaced named = in_turn (map (item_step named) named.order) nothing_earlier ≡ Some (all_earlier named)
