-- Units with their types, what fails in them, and the entry.
use Rattle.std.specs.Prelude.{ℕ, ◌+◌, Bool, true, false, not, ◌&&◌, is_none, is_some, List, [], ◌∷◌, ◌++◌, filter_map, Option, Some, None, option_map}
use Rattle.std.specs.Prelude.{if◌then◌else◌}
use Rattle.std.specs.List.{list_all}
use Rattle.bl_tree.specs.declared.place.Place.{Place}
use Rattle.bl_tree.specs.declared.rule.Failure.{Failure}
use Rattle.bl_tree.specs.declared.rule.Rule.TheVariants as rule
use Rattle.bl_tree.specs.declared.scalar.Scalar.{Scalar as ScalarType}
use Rattle.bl_tree.specs.declared.tree.Stmt.{Stmt}
use Rattle.bl_tree.specs.declared.tree.Ty.{Ty}
use Rattle.bl_tree.specs.declared.tree.Unit.{Unit as UnitDef}
use Rattle.bl_tree.specs.declared.tree.Var.{Var}
use Rattle.bl_tree.specs.Types.{scalar_in}
use Rattle.bl_tree.specs.Typing.{is_activity}
use Rattle.bl_names_tree.specs.declared.item.NamedConstant.{NamedConstant}
use Rattle.bl_names_tree.specs.declared.item.NamedUnit.{NamedUnit}
use Rattle.bl_names_tree.specs.declared.item.NamedVar.{NamedVar}
use Rattle.bl_names_tree.specs.declared.types.NamedType.{NamedType, out-NamedType}
use Rattle.bl_names_tree.specs.declared.types.NamedType.TheOpen.{NamedType-F}
use Rattle.bl_types.specs.declared.environment.Environment.{Environment}
use Rattle.bl_types.specs.declared.environment.Variable.{Variable}
use Rattle.bl_types.specs.Declarations.{Declaring, after_parameters, is_parameter}
use Rattle.bl_types.specs.Failures.{unless}
use Rattle.bl_types.specs.Returns.{return_failures}
use Rattle.bl_types.specs.Statements.{Block, walked_block}
use Rattle.bl_types.specs.Written.{bad_lengths, written_type}

-- ---- units

-- the result of a unit, where it is scalar, and what fails in it
pub record Result : Type 0 where
  pub result : Option ScalarType
  pub failures : List Failure

-- Type: a result isn't scalar; at the unit's name
abbrev pub result_typed : Place → List Failure → Ty → Result
result_typed name earlier ty = record { result = scalar_in ty; failures = earlier ++ unless (is_some (scalar_in ty)) rule.Type name }

-- the result that is written, and what fails in it; none where none is written
abbrev pub result_of : Environment → Place → Option NamedType → Result
result_of env name (Some written) = result_typed name (bad_lengths env.constants written) (written_type env.constants written)
result_of env name None = record { result = None; failures = [] }

-- a variable with this type
abbrev pub var_typed : Variable → Ty → Var
var_typed var ty = record { name = var.name; place = var.place; ty = ty; role = var.role }

-- a variable that has a type
abbrev pub var_of : Variable → Option Var
var_of var = option_map (var_typed var) var.ty

-- the variables of a list that have types
abbrev pub vars_of : List Variable → List Var
vars_of vars = filter_map var_of vars

-- what is known as a unit begins
abbrev pub entered : NamedUnit → Environment → Environment
entered unit env = record env { vars = []; kind = unit.kind; result = None }

-- a unit with this body, from what is known at its end
abbrev pub unit_of : NamedUnit → List Stmt → Environment → UnitDef
unit_of unit body env = record {
  name = unit.name.text;
  place = unit.name.place;
  kind = unit.kind;
  vars = vars_of env.vars;
  inputs = unit.inputs;
  outputs = unit.outputs;
  result = env.result;
  body = body;
}

-- what is known as a unit with this body is over
abbrev pub environment_after : NamedUnit → List Stmt → Environment → Environment
environment_after unit body env = record env { units = env.units ++ unit_of unit body env ∷ []; vars = []; result = None }

-- what is known after the head of a unit: its parameters and its result
abbrev pub after_head : NamedUnit → Environment → Declaring
after_head unit env =
    let inside : Declaring = after_parameters unit.vars (entered unit env) in
    let result : Result = result_of inside.env unit.name.place unit.result in
    record { env = record inside.env { result = result.result }; failures = inside.failures ++ result.failures }

-- what is known after a unit in a program with these constants
abbrev pub after_unit : List NamedConstant → NamedUnit → Environment → Declaring
after_unit constants unit env =
    let head : Declaring = after_head unit env in
    let body : Block Stmt = walked_block constants unit.vars unit.body head.env in
    record { env = environment_after unit body.made body.env; failures = head.failures ++ (body.failures ++ return_failures unit) }

-- ---- the entry

-- whether the outermost level of a written type is a scalar type
abbrev pub is_scalar_level : NamedType-F NamedType → Bool
is_scalar_level (NamedType-F.Scalar s) = true
is_scalar_level _ = false

-- whether a type is written and is scalar
abbrev pub is_scalar : Option NamedType → Bool
is_scalar (Some written) = is_scalar_level (out-NamedType written)
is_scalar None = false

-- whether a parameter is scalar
abbrev pub can_be_driven : NamedVar → Bool
can_be_driven var = if is_parameter var.role then is_scalar var.ty else true

-- whether the environment can drive a unit: an activity without a result and with scalar parameters alone
abbrev pub drives : NamedUnit → Bool
drives unit = is_activity unit.kind && (is_none unit.result && list_all can_be_driven unit.vars)

-- the failures of rule Entry: a missing mark, at the text's end; a second one, or a unit that can't be driven
abbrev pub entries : Bool → Place → List NamedUnit → List Failure
entries seen end [] = unless seen rule.Entry end
entries seen end (unit ∷ rest) =
    if unit.entry then unless (not seen && drives unit) rule.Entry unit.name.place ++ entries true end rest else entries seen end rest

-- the position of the first marked unit of a list that begins at the position; 0 where none is marked
abbrev pub entry_among : List NamedUnit → ℕ → ℕ
entry_among [] k = 0
entry_among (unit ∷ rest) k = if unit.entry then k else entry_among rest (k + 1)
