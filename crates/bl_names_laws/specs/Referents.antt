-- What the positions in a named tree lead to: the names of declarations, one for each use, in the order in which uses take effect.
use Rattle.std.specs.Prelude.{ℕ, List, [], ◌∷◌, ◌++◌, map, take, slice_get, Option, Some, None, option_map}
use Rattle.bl_tree.specs.Reduce.{joined}
use Rattle.bl_parse_tree.specs.declared.name.Name.{Name}
use Rattle.bl_names_tree.specs.declared.expr.NamedExpr.{NamedExpr, fold-NamedExpr}
use Rattle.bl_names_tree.specs.declared.expr.NamedExprKind.TheOpen.{NamedExprKind-F, NamedPart-F, NamedExpr-F, NamedTarget-F}
use Rattle.bl_names_tree.specs.declared.expr.NamedTarget.{NamedTarget, fold-NamedTarget}
use Rattle.bl_names_tree.specs.declared.expr.Root.{Root}
use Rattle.bl_names_tree.specs.declared.expr.Root.TheVariants as root
use Rattle.bl_names_tree.specs.declared.item.Item.{Item}
use Rattle.bl_names_tree.specs.declared.item.Item.TheVariants as item
use Rattle.bl_names_tree.specs.declared.item.NamedConstant.{NamedConstant}
use Rattle.bl_names_tree.specs.declared.item.NamedField.{NamedField}
use Rattle.bl_names_tree.specs.declared.item.NamedStruct.{NamedStruct}
use Rattle.bl_names_tree.specs.declared.item.NamedUnit.{NamedUnit}
use Rattle.bl_names_tree.specs.declared.item.NamedVar.{NamedVar}
use Rattle.bl_names_tree.specs.declared.named.Named.{Named}
use Rattle.bl_names_tree.specs.declared.stmt.NamedPath.{NamedPath}
use Rattle.bl_names_tree.specs.declared.stmt.NamedStmt.{NamedStmt, fold-NamedStmt}
use Rattle.bl_names_tree.specs.declared.stmt.NamedStmtKind.TheOpen.{NamedStmtKind-F, NamedArm-F, NamedBranch-F, NamedStmt-F}
use Rattle.bl_names_tree.specs.declared.types.NamedLength.{NamedLength}
use Rattle.bl_names_tree.specs.declared.types.NamedLength.TheVariants as count
use Rattle.bl_names_tree.specs.declared.types.NamedType.{NamedType, fold-NamedType}
use Rattle.bl_names_tree.specs.declared.types.NamedType.TheOpen.{NamedType-F}
use Rattle.bl_names_tree.specs.Placed.{DeclaredBefore, item_step, nothing_earlier, parameters}

-- the names of what positions lead to; none for a position at which nothing is
abbrev pub Referents : Type 0
Referents = List (Option Name)

-- the name of the struct at a position
abbrev pub struct_at : Named → ℕ → Option Name
struct_at named k = option_map (λ def. def.name) (slice_get named.structs k)

-- the name of the constant at a position
abbrev pub constant_at : Named → ℕ → Option Name
constant_at named k = option_map (λ constant. constant.name) (slice_get named.constants k)

-- the name of the unit at a position
abbrev pub unit_at : Named → ℕ → Option Name
unit_at named k = option_map (λ unit. unit.name) (slice_get named.units k)

-- the name of the variable at a position among the variables of a unit
abbrev pub variable_at : List NamedVar → ℕ → Option Name
variable_at vars k = option_map (λ var. var.name) (slice_get vars k)

-- what is optional may be missing
abbrev pub leads_if : {A : Type 0} → (A → Referents) → Option A → Referents
leads_if leads (Some x) = leads x
leads_if leads None = []

-- ---- types

-- what a length leads to: its constant, where it names one
abbrev pub length_leads : Named → NamedLength → Referents
length_leads named (count.Number n) = []
length_leads named (count.Constant at k) = constant_at named k ∷ []

-- what one level of a type leads to, from what its element does
abbrev pub type_level_leads : Named → NamedType-F Referents → Referents
type_level_leads named (NamedType-F.Scalar s) = []
type_level_leads named (NamedType-F.Struct k) = struct_at named k ∷ []
type_level_leads named (NamedType-F.Array n element) = length_leads named n ++ element

-- the structs of a type, and the constants of its lengths
abbrev pub type_leads : Named → NamedType → Referents
type_leads named = fold-NamedType Referents (type_level_leads named)

-- ---- expressions, in a unit that has these variables

-- the name of the variable or constant with which a target begins
abbrev pub at_root : Named → List NamedVar → Root → Option Name
at_root named vars (root.Variable k) = variable_at vars k
at_root named vars (root.Constant k) = constant_at named k

-- what one layer of an expression leads to, from what its operands do
abbrev pub kind_leads : Named → List NamedVar → NamedExprKind-F Referents Referents Referents Referents → Referents
kind_leads named vars (NamedExprKind-F.Number minus n) = []
kind_leads named vars (NamedExprKind-F.Truth b) = []
kind_leads named vars (NamedExprKind-F.Read target) = target
kind_leads named vars (NamedExprKind-F.Prev k) = variable_at vars k ∷ []
kind_leads named vars (NamedExprKind-F.One op a) = a
kind_leads named vars (NamedExprKind-F.Two op a b) = a ++ b
kind_leads named vars (NamedExprKind-F.Cast s a) = a
kind_leads named vars (NamedExprKind-F.Call at f inputs) = unit_at named f ∷ joined inputs

-- the names of fields belong to types; an index leads to what its expression does
abbrev pub part_leads : NamedPart-F Referents Referents Referents Referents → Referents
part_leads (NamedPart-F.Field name) = []
part_leads (NamedPart-F.Index e) = e

-- an expression leads to what its kind does, wherever it stands
abbrev pub expr_layer_leads : NamedExpr-F Referents Referents Referents Referents → Referents
expr_layer_leads e = e.what

-- a target leads to its root, and to what its indices do
abbrev pub target_layer_leads : Named → List NamedVar → NamedTarget-F Referents Referents Referents Referents → Referents
target_layer_leads named vars target = at_root named vars target.root ∷ joined target.parts

-- the variables, constants and functions of an expression
abbrev pub expr_leads : Named → List NamedVar → NamedExpr → Referents
expr_leads named vars = fold-NamedExpr Referents Referents Referents Referents (kind_leads named vars) part_leads expr_layer_leads (target_layer_leads named vars)

-- what the positions in a target lead to, its root first
abbrev pub target_leads : Named → List NamedVar → NamedTarget → Referents
target_leads named vars = fold-NamedTarget Referents Referents Referents Referents (kind_leads named vars) part_leads expr_layer_leads (target_layer_leads named vars)

-- the variable that stands for an output or takes a result
abbrev pub path_leads : List NamedVar → NamedPath → Referents
path_leads vars path = variable_at vars path.root ∷ []

-- ---- declarations

-- what the type of a variable leads to
abbrev pub var_leads : Named → NamedVar → Referents
var_leads named var = leads_if (type_leads named) var.ty

-- what the type and the value of a constant lead to
abbrev pub constant_leads : Named → List NamedVar → NamedConstant → Referents
constant_leads named vars constant = leads_if (type_leads named) constant.ty ++ expr_leads named vars constant.value

-- ---- statements, in a unit that has these variables

-- what the inputs and then the outputs of a call or `run` lead to
abbrev pub argument_leads : Named → List NamedVar → List NamedExpr → List NamedPath → Referents
argument_leads named vars inputs outputs = joined (map (expr_leads named vars) inputs) ++ joined (map (path_leads vars) outputs)

-- the type of a variable and the parts of a constant stand where those are declared
abbrev pub stmt_kind_leads : Named → List NamedVar → NamedStmtKind-F Referents Referents Referents Referents → Referents
stmt_kind_leads named vars (NamedStmtKind-F.Declare k value) = leads_if (var_leads named) (slice_get vars k) ++ leads_if (expr_leads named vars) value
stmt_kind_leads named vars (NamedStmtKind-F.Const k) = leads_if (constant_leads named vars) (slice_get named.constants k)
stmt_kind_leads named vars (NamedStmtKind-F.Assign target e) = target_leads named vars target ++ expr_leads named vars e
stmt_kind_leads named vars (NamedStmtKind-F.Call at f inputs outputs) = unit_at named f ∷ argument_leads named vars inputs outputs
stmt_kind_leads named vars (NamedStmtKind-F.Await e) = expr_leads named vars e
stmt_kind_leads named vars (NamedStmtKind-F.Run target at a inputs outputs) =
    leads_if (path_leads vars) target ++ (unit_at named a ∷ argument_leads named vars inputs outputs)
stmt_kind_leads named vars (NamedStmtKind-F.If arms other) = joined arms ++ joined other
stmt_kind_leads named vars (NamedStmtKind-F.Cobegin branches) = joined branches
stmt_kind_leads named vars (NamedStmtKind-F.When guard e body) = expr_leads named vars e ++ joined body
stmt_kind_leads named vars (NamedStmtKind-F.Repeat body) = joined body
stmt_kind_leads named vars (NamedStmtKind-F.Until body e) = joined body ++ expr_leads named vars e
stmt_kind_leads named vars (NamedStmtKind-F.While e body) = expr_leads named vars e ++ joined body
stmt_kind_leads named vars (NamedStmtKind-F.Return e) = leads_if (expr_leads named vars) e

-- an arm of an `if` leads to what its condition and its block do
abbrev pub arm_layer_leads : Named → List NamedVar → NamedArm-F Referents Referents Referents Referents → Referents
arm_layer_leads named vars arm = expr_leads named vars arm.test ++ joined arm.body

-- a branch leads to what its block does
abbrev pub branch_layer_leads : NamedBranch-F Referents Referents Referents Referents → Referents
branch_layer_leads branch = joined branch.body

-- a statement leads to what its kind does, wherever it stands
abbrev pub stmt_layer_leads : NamedStmt-F Referents Referents Referents Referents → Referents
stmt_layer_leads s = s.what

-- what a statement leads to, and what stands in it
abbrev pub stmt_leads : Named → List NamedVar → NamedStmt → Referents
stmt_leads named vars = fold-NamedStmt Referents Referents Referents Referents (stmt_kind_leads named vars) (arm_layer_leads named vars) branch_layer_leads stmt_layer_leads

-- ---- items

-- what the type of a field leads to
abbrev pub field_leads : Named → NamedField → Referents
field_leads named field = type_leads named field.ty

-- what the types of the fields of a struct lead to
abbrev pub struct_leads : Named → NamedStruct → Referents
struct_leads named def = joined (map (field_leads named) def.fields)

-- what the types of the parameters of a unit lead to, that of its result, and its statements
abbrev pub unit_leads : Named → NamedUnit → Referents
unit_leads named unit =
    joined (map (var_leads named) (take (parameters unit) unit.vars))
    ++ (leads_if (type_leads named) unit.result ++ joined (map (stmt_leads named unit.vars) unit.body))

-- what the positions in the next struct, constant or unit lead to; no variable is visible outside of units
abbrev pub item_leads : Named → Item → DeclaredBefore → Referents
item_leads named item.Struct earlier = leads_if (struct_leads named) (slice_get named.structs earlier.structs)
item_leads named item.Constant earlier = leads_if (constant_leads named []) (slice_get named.constants earlier.constants)
item_leads named item.Unit earlier = leads_if (unit_leads named) (slice_get named.units earlier.units)

-- what the positions in successive items lead to, as far as they are declared before their use
abbrev pub items_lead : Named → List Item → Option DeclaredBefore → Referents
items_lead named [] earlier = []
items_lead named (one ∷ rest) None = []
items_lead named (one ∷ rest) (Some earlier) = item_leads named one earlier ++ items_lead named rest (item_step named one earlier)

-- what all positions in a program lead to
abbrev pub program_leads : Named → Referents
program_leads named = items_lead named named.order (Some nothing_earlier)
