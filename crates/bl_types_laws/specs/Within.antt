-- What is known before a place of a named tree, beside what a statement of the typed program sees there.
use Rattle.std.specs.Prelude.{◌≡◌, ℕ, ◌+◌, Bool, true, ◌&&◌, nat_le, List, ◌++◌, length, slice_get, Some}
use Rattle.std.specs.List.{list_all}
use Rattle.bl_tree.specs.declared.scalar.Scalar.{Scalar as ScalarType}
use Rattle.bl_tree.specs.declared.tree.StructDef.{StructDef}
use Rattle.bl_tree.specs.declared.tree.Unit.{Unit as UnitDef}
use Rattle.bl_tree.specs.declared.tree.Var.{Var}
use Rattle.bl_tree.specs.Reduce.{all_of}
use Rattle.bl_tree.specs.Scalar.{in_range}
use Rattle.bl_tree.specs.Typing.{TypingContext, is_function, var_at}
use Rattle.bl_names_tree.specs.declared.expr.NamedExpr.{NamedExpr, fold-NamedExpr}
use Rattle.bl_names_tree.specs.declared.expr.NamedExprKind.TheOpen.{NamedExprKind-F, NamedPart-F, NamedExpr-F, NamedTarget-F}
use Rattle.bl_names_tree.specs.declared.expr.NamedTarget.{NamedTarget, fold-NamedTarget}
use Rattle.bl_names_tree.specs.Placed.{DeclaredBefore, holds_of}
use Rattle.bl_types.specs.declared.environment.Constant.{Constant}
use Rattle.bl_types.specs.declared.environment.Environment.{Environment}
use Rattle.bl_types.specs.declared.environment.Variable.{Variable}

-- a variable has a type, and is the one of the site at its position
pub record VariableThere (site : TypingContext) (k : ℕ) (known : Variable) : Type 0 where
  pub var : Var
  pub is_there : var_at site k ≡ Some var
  pub name : known.name ≡ var.name
  pub ty : known.ty ≡ Some var.ty
  pub role : known.role ≡ var.role

-- a constant has a scalar type, and its value is a number of it
pub record ConstantStands (constant : Constant) : Type 0 where
  pub ty : ScalarType
  pub is_typed : constant.ty ≡ Some ty
  pub is_number : in_range ty constant.value ≡ true

-- whether the parameters of a unit are among its variables
abbrev pub has_parameters : UnitDef → Bool
has_parameters unit = nat_le (unit.inputs + unit.outputs) (length unit.vars)

-- what is known is a part of what the site has
pub record EnvironmentWithin (env : Environment) (site : TypingContext) : Type 0 where
  pub later : List StructDef
  pub structs : site.structs ≡ env.structs ++ later
  pub units : env.units ≡ site.earlier
  pub kind : env.kind ≡ site.kind
  pub result : env.result ≡ site.result
  pub vars : (k : ℕ) (known : Variable) → slice_get env.vars k ≡ Some known → VariableThere site k known
  pub constants : (k : ℕ) (constant : Constant) → slice_get env.constants k ≡ Some constant → ConstantStands constant
  pub heads : list_all has_parameters site.earlier ≡ true

-- the numbers of declarations that an environment knows
abbrev pub known_in : Environment → DeclaredBefore
known_in env = record { structs = length env.structs; constants = length env.constants; units = length env.units; variables = length env.vars }

-- ---- calls

-- whether the calls in a kind of expression name functions, from whether those in its parts do
abbrev pub kind_calls : List UnitDef → NamedExprKind-F Bool Bool Bool Bool → Bool
kind_calls units (NamedExprKind-F.Number minus n) = true
kind_calls units (NamedExprKind-F.Truth b) = true
kind_calls units (NamedExprKind-F.Read target) = target
kind_calls units (NamedExprKind-F.Prev k) = true
kind_calls units (NamedExprKind-F.One op a) = a
kind_calls units (NamedExprKind-F.Two op a b) = a && b
kind_calls units (NamedExprKind-F.Cast s a) = a
kind_calls units (NamedExprKind-F.Call at f inputs) = holds_of (λ unit. is_function unit.kind) (slice_get units f) && all_of inputs

-- whether the calls in a part of a target, that is in its index, name functions
abbrev pub part_calls : NamedPart-F Bool Bool Bool Bool → Bool
part_calls (NamedPart-F.Field name) = true
part_calls (NamedPart-F.Index e) = e

-- the calls in an expression are those in its kind
abbrev pub expr_layer_calls : NamedExpr-F Bool Bool Bool Bool → Bool
expr_layer_calls e = e.what

-- the calls in a target are those in its parts
abbrev pub target_layer_calls : NamedTarget-F Bool Bool Bool Bool → Bool
target_layer_calls target = all_of target.parts

-- whether each call in an expression names a function among the units
abbrev pub calls_functions : List UnitDef → NamedExpr → Bool
calls_functions units = fold-NamedExpr Bool Bool Bool Bool (kind_calls units) part_calls expr_layer_calls target_layer_calls

-- whether each call in the indices of a target names a function among the units
abbrev pub target_calls : List UnitDef → NamedTarget → Bool
target_calls units = fold-NamedTarget Bool Bool Bool Bool (kind_calls units) part_calls expr_layer_calls target_layer_calls
