-- What fits together in a typed program: which type each expression has, and which statements may stand in a unit.
use Rattle.std.specs.Prelude.{ℕ, Bool, true, false, not, ◌&&◌, ◌||◌, nat_eq, is_none, is_some, List, [], ◌∷◌, map, take, drop, slice_get, Option, Some, None}
use Rattle.std.specs.Prelude.{option_map, option_and_then, if◌then◌else◌}
use Rattle.bl_tree.specs.declared.scalar.Op.{Op}
use Rattle.bl_tree.specs.declared.scalar.Scalar.{Scalar as ScalarType}
use Rattle.bl_tree.specs.declared.tree.Expr.{Expr, fold-Expr}
use Rattle.bl_tree.specs.declared.tree.ExprKind.TheOpen.{ExprKind-F, Part-F, Path-F, Expr-F}
use Rattle.bl_tree.specs.declared.tree.Path.{Path, fold-Path, out-Path}
use Rattle.bl_tree.specs.declared.tree.Role.{Role}
use Rattle.bl_tree.specs.declared.tree.Role.TheVariants.{Input, Output, Variable, Fixed}
use Rattle.bl_tree.specs.declared.tree.Stmt.{Stmt, fold-Stmt}
use Rattle.bl_tree.specs.declared.tree.StmtKind.TheOpen.{StmtKind-F, Arm-F, Branch-F, Stmt-F}
use Rattle.bl_tree.specs.declared.tree.StructDef.{StructDef}
use Rattle.bl_tree.specs.declared.tree.Ty.{Ty, out-Ty}
use Rattle.bl_tree.specs.declared.tree.Ty.TheOpen.{Ty-F}
use Rattle.bl_tree.specs.declared.tree.Unit.{Unit as UnitDef}
use Rattle.bl_tree.specs.declared.tree.UnitKind.{UnitKind}
use Rattle.bl_tree.specs.declared.tree.UnitKind.TheVariants.{Function, Activity}
use Rattle.bl_tree.specs.declared.tree.Var.{Var}
use Rattle.bl_tree.specs.Numbers.{takes_two, takes_one, type_of_result}
use Rattle.bl_tree.specs.Reduce.{all_of}
use Rattle.bl_tree.specs.Scalar.{in_range, is_whole, is_bool}
use Rattle.bl_tree.specs.Types.{same_scalar, same_type, scalar, scalar_in}

-- what a statement sees: the structs, the units before its own, and the kind, the variables and the result of its own
pub record TypingContext : Type 0 where
  pub structs : List StructDef
  pub earlier : List UnitDef
  pub kind : UnitKind
  pub vars : List Var
  pub result : Option ScalarType

-- what the statements of a unit's body see
abbrev pub site_of : List StructDef → List UnitDef → UnitDef → TypingContext
site_of structs earlier unit = record { structs = structs; earlier = earlier; kind = unit.kind; vars = unit.vars; result = unit.result }

-- whether a unit is an activity
abbrev pub is_activity : UnitKind → Bool
is_activity Function = false
is_activity Activity = true

-- whether a unit is a function
abbrev pub is_function : UnitKind → Bool
is_function kind = not (is_activity kind)

-- a variable that a body may write: declared by `var`, or an output
abbrev pub may_change : Role → Bool
may_change Input = false
may_change Output = true
may_change Variable = true
may_change Fixed = false

-- whether a variable is declared by `var`
abbrev pub is_variable : Role → Bool
is_variable Variable = true
is_variable _ = false

-- whether a variable is declared by `let`
abbrev pub is_fixed : Role → Bool
is_fixed Fixed = true
is_fixed _ = false

-- the variable at a position, where the unit has one there
abbrev pub var_at : TypingContext → ℕ → Option Var
var_at site k = slice_get site.vars k

-- the input parameters of a unit, which stand first among its variables
abbrev pub inputs_of : UnitDef → List Var
inputs_of unit = take unit.inputs unit.vars

-- the output parameters of a unit, which stand behind the inputs
abbrev pub outputs_of : UnitDef → List Var
outputs_of unit = take unit.outputs (drop unit.inputs unit.vars)

-- ---- expressions

-- the type of a field of a type, where it is a struct that has one there
abbrev pub field_in : List StructDef → ℕ → Ty-F Ty → Option Ty
field_in structs k (Ty-F.Struct s) = option_and_then (λ def. option_map (λ field. field.ty) (slice_get def.fields k)) (slice_get structs s)
field_in structs k _ = None

-- the type of an array's elements
abbrev pub element_in : Ty-F Ty → Option Ty
element_in (Ty-F.Array n element) = Some element
element_in _ = None

-- t where the given type is a whole-number type
abbrev pub where_whole : Option Ty → Option Ty → Option Ty
where_whole index t = option_and_then (λ ty. option_and_then (λ s. if is_whole s then t else None) (scalar_in ty)) index

-- the type of a part of a place, from the type of the place
abbrev pub part_type : TypingContext → Part-F (Option Ty) (Ty → Option Ty) (Option Ty) (Option Ty) → Ty → Option Ty
part_type site (Part-F.Field k) ty = field_in site.structs k (out-Ty ty)
part_type site (Part-F.Index index) ty = where_whole index (element_in (out-Ty ty))

-- the type at the end of a path, from the type of its root and what each part makes of a type
abbrev pub after_parts : List (Ty → Option Ty) → Ty → Option Ty
after_parts [] ty = Some ty
after_parts (part ∷ rest) ty = option_and_then (after_parts rest) (part ty)

-- the type, if it is equal to the type that stands at the path
abbrev pub where_same : Ty → Ty → Option Ty
where_same written found = if same_type written found then Some found else None

-- the type of a path: that of its root, led along its parts, where it is the type that the tree writes beside it
abbrev pub path_type : TypingContext → Path-F (Option Ty) (Ty → Option Ty) (Option Ty) (Option Ty) → Option Ty
path_type site path = option_and_then (where_same path.ty) (option_and_then (λ var. after_parts path.parts var.ty) (var_at site path.root))

-- the result type of a unary operator, where it takes operands of this type
abbrev pub one_type : Op → ScalarType → Option Ty
one_type op s = if takes_one op s then Some (scalar (type_of_result op s)) else None

-- the type of what an operator gives for two operands, where they have one type and the operator takes it
abbrev pub two_type : Op → ScalarType → ScalarType → Option Ty
two_type op s t = if same_scalar s t && takes_two op s then Some (scalar (type_of_result op s)) else None

-- the target type of a cast, where both types are whole-number types
abbrev pub cast_type : ScalarType → ScalarType → Option Ty
cast_type target s = if is_whole target && is_whole s then Some (scalar target) else None

-- `prev` is for a scalar `var` of an activity
abbrev pub prev_type : UnitKind → Var → Option Ty
prev_type kind var = if is_activity kind && (is_variable var.role && is_some (scalar_in var.ty)) then Some var.ty else None

-- whether the expressions have the types of the variables, one for one
abbrev pub types_match : List (Option Ty) → List Var → Bool
types_match [] [] = true
types_match (Some ty ∷ types) (var ∷ vars) = same_type ty var.ty && types_match types vars
types_match _ _ = false

-- a function with a result and no outputs, called with inputs of its parameters' types
abbrev pub call_type : List (Option Ty) → UnitDef → Option Ty
call_type inputs callee =
    if is_function callee.kind && (nat_eq callee.outputs 0 && types_match inputs (inputs_of callee)) then option_map scalar callee.result else None

-- a literal has the type written beside it, where its number is in the range of that type
abbrev pub literal_type : ScalarType → Bool → Option Ty
literal_type s fits = if fits then Some (scalar s) else None

-- the type of one layer of an expression, from the types of its operands; none where they don't fit
abbrev pub kind_type : TypingContext → ExprKind-F (Option Ty) (Ty → Option Ty) (Option Ty) (Option Ty) → Option Ty
kind_type site (ExprKind-F.Literal n s) = literal_type s (in_range s n)
kind_type site (ExprKind-F.Read path) = path
kind_type site (ExprKind-F.Prev k) = option_and_then (prev_type site.kind) (var_at site k)
kind_type site (ExprKind-F.One op a) = option_and_then (one_type op) (option_and_then scalar_in a)
kind_type site (ExprKind-F.Two op a b) =
    option_and_then (λ s. option_and_then (two_type op s) (option_and_then scalar_in b)) (option_and_then scalar_in a)
kind_type site (ExprKind-F.Cast target a) = option_and_then (cast_type target) (option_and_then scalar_in a)
kind_type site (ExprKind-F.Call f inputs) = option_and_then (call_type inputs) (slice_get site.earlier f)

-- an expression has the type of its kind, wherever it stands
abbrev pub expr_type : Expr-F (Option Ty) (Ty → Option Ty) (Option Ty) (Option Ty) → Option Ty
expr_type e = e.what

-- the one type of an expression; none where its parts do not fit
abbrev pub type_of : TypingContext → Expr → Option Ty
type_of site = fold-Expr (Option Ty) (Ty → Option Ty) (Option Ty) (Option Ty) (kind_type site) (part_type site) expr_type (path_type site)

-- the type of a path; none where its parts don't fit
abbrev pub type_of_path : TypingContext → Path → Option Ty
type_of_path site = fold-Path (Option Ty) (Ty → Option Ty) (Option Ty) (Option Ty) (kind_type site) (part_type site) expr_type (path_type site)

-- ---- statements

-- whether two optional types are present and equal
abbrev pub are_same : Option Ty → Option Ty → Bool
are_same (Some a) (Some b) = same_type a b
are_same _ _ = false

-- whether there is a type and it is bool
abbrev pub is_truth : Option Ty → Bool
is_truth (Some ty) = is_some (option_and_then (λ s. if is_bool s then Some s else None) (scalar_in ty))
is_truth None = false

-- whether the path's root may be written here
abbrev pub is_assignable : TypingContext → Path → Bool
is_assignable site path = is_some (option_and_then (λ var. if may_change var.role then Some var else None) (var_at site (out-Path path).root))

-- whether a part of a path is a field
abbrev pub part_is_field : Part-F (Unit {0}) Bool (Unit {0}) Bool → Bool
part_is_field (Part-F.Field k) = true
part_is_field (Part-F.Index e) = false

-- nothing is asked of the kind of an expression here
abbrev pub kind_ignored : ExprKind-F (Unit {0}) Bool (Unit {0}) Bool → Unit {0}
kind_ignored kind = tt

-- nothing is asked of an expression here
abbrev pub expr_ignored : Expr-F (Unit {0}) Bool (Unit {0}) Bool → Unit {0}
expr_ignored e = tt

-- whether all parts of a path are fields
abbrev pub path_is_plain : Path-F (Unit {0}) Bool (Unit {0}) Bool → Bool
path_is_plain path = all_of path.parts

-- whether a path goes by fields alone
abbrev pub is_plain : Path → Bool
is_plain = fold-Path (Unit {0}) Bool (Unit {0}) Bool kind_ignored part_is_field expr_ignored path_is_plain

-- whether a path may be an output argument or the target of `run`
abbrev pub is_outlet : TypingContext → Path → Bool
is_outlet site path = is_plain path && is_assignable site path

-- whether the arguments fit the unit's inputs and outputs
abbrev pub arguments_fit : TypingContext → List Expr → List Path → UnitDef → Bool
arguments_fit site inputs outputs callee =
    types_match (map (type_of site) inputs) (inputs_of callee)
    && (types_match (map (type_of_path site) outputs) (outputs_of callee) && all_of (map (is_outlet site) outputs))

-- whether a call statement may name the unit: a function without a result
abbrev pub is_procedure : UnitDef → Bool
is_procedure callee = is_function callee.kind && is_none callee.result

-- whether a call statement may call an optional unit with these arguments; an absent unit may not be called
abbrev pub call_fits : TypingContext → List Expr → List Path → Option UnitDef → Bool
call_fits site inputs outputs (Some callee) = is_procedure callee && arguments_fit site inputs outputs callee
call_fits site inputs outputs None = false

-- whether the target of a `run` fits the result of its activity: the result may be dropped, but without one there is no target
abbrev pub target_fits : TypingContext → Option ScalarType → Option Path → Bool
target_fits site result None = true
target_fits site (Some result) (Some path) = is_outlet site path && are_same (Some (scalar result)) (type_of_path site path)
target_fits site None (Some path) = false

-- whether an activity may run the unit at its position, an activity too, with this target and these arguments
abbrev pub run_fits : TypingContext → Option Path → List Expr → List Path → Option UnitDef → Bool
run_fits site target inputs outputs (Some callee) =
    (is_activity site.kind && is_activity callee.kind)
    && (target_fits site callee.result target && arguments_fit site inputs outputs callee)
run_fits site target inputs outputs None = false

-- a `var` may go without an initial value, a `let` may not
abbrev pub declaration_fits : TypingContext → Option Expr → Option Var → Bool
declaration_fits site (Some e) (Some var) = (is_variable var.role || is_fixed var.role) && are_same (Some var.ty) (type_of site e)
declaration_fits site None (Some var) = is_variable var.role
declaration_fits site _ None = false

-- whether a `return` has a value of the unit's result type, or neither has one
abbrev pub return_fits : TypingContext → Option Expr → Option ScalarType → Bool
return_fits site (Some e) (Some result) = are_same (Some (scalar result)) (type_of site e)
return_fits site None None = true
return_fits site _ _ = false

-- whether a list has an item
abbrev pub is_inhabited : {A : Type 0} → List A → Bool
is_inhabited [] = false
is_inhabited (x ∷ xs) = true

-- whether one layer of a statement fits, where all in its arms, branches and blocks does
abbrev pub kind_fits : TypingContext → StmtKind-F Bool Bool Bool Bool → Bool
kind_fits site (StmtKind-F.Declare k initial) = declaration_fits site initial (var_at site k)
kind_fits site (StmtKind-F.Assign path e) = is_assignable site path && are_same (type_of_path site path) (type_of site e)
kind_fits site (StmtKind-F.Call f inputs outputs) = call_fits site inputs outputs (slice_get site.earlier f)
kind_fits site (StmtKind-F.Await e) = is_activity site.kind && is_truth (type_of site e)
kind_fits site (StmtKind-F.Run target a inputs outputs) = run_fits site target inputs outputs (slice_get site.earlier a)
kind_fits site (StmtKind-F.If arms other) = is_inhabited arms && (all_of arms && all_of other)
kind_fits site (StmtKind-F.Cobegin branches) = is_activity site.kind && (is_inhabited branches && all_of branches)
kind_fits site (StmtKind-F.When guard e body) = is_activity site.kind && (is_truth (type_of site e) && all_of body)
kind_fits site (StmtKind-F.Repeat body) = all_of body
kind_fits site (StmtKind-F.Until body e) = all_of body && is_truth (type_of site e)
kind_fits site (StmtKind-F.While e body) = is_truth (type_of site e) && all_of body
kind_fits site (StmtKind-F.Return e) = return_fits site e site.result

-- whether an arm of an `if` has a condition of type bool, and its block fits
abbrev pub arm_fits : TypingContext → Arm-F Bool Bool Bool Bool → Bool
arm_fits site arm = is_truth (type_of site arm.test) && all_of arm.body

-- whether the block of a branch fits
abbrev pub branch_fits : Branch-F Bool Bool Bool Bool → Bool
branch_fits branch = all_of branch.body

-- a statement fits where its kind does, wherever it stands
abbrev pub stmt_fits : Stmt-F Bool Bool Bool Bool → Bool
stmt_fits s = s.what

-- whether a statement and all that stands in it may stand at this site
abbrev pub fits : TypingContext → Stmt → Bool
fits site = fold-Stmt Bool Bool Bool Bool (kind_fits site) (arm_fits site) branch_fits stmt_fits
