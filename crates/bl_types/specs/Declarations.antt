-- What declarations give: initial values, constants, structs and parameters.
use Rattle.std.specs.Prelude.{Bool, true, false, is_some, List, [], ◌∷◌, ◌++◌, map, Option, Some, None, option_map, option_and_then, if◌then◌else◌}
use Rattle.bl_tree.specs.declared.place.Place.{Place}
use Rattle.bl_tree.specs.declared.rule.Failure.{Failure}
use Rattle.bl_tree.specs.declared.rule.Rule.TheVariants as rule
use Rattle.bl_tree.specs.declared.tree.Expr.{Expr}
use Rattle.bl_tree.specs.declared.tree.Field.{Field}
use Rattle.bl_tree.specs.declared.tree.Role.{Role}
use Rattle.bl_tree.specs.declared.tree.Role.TheVariants.{Input, Output, Variable as Var, Fixed}
use Rattle.bl_tree.specs.declared.tree.StructDef.{StructDef}
use Rattle.bl_tree.specs.declared.tree.Ty.{Ty}
use Rattle.bl_tree.specs.Reduce.{joined}
use Rattle.bl_tree.specs.Types.{scalar_in}
use Rattle.bl_names_tree.specs.declared.expr.NamedExpr.{NamedExpr}
use Rattle.bl_names_tree.specs.declared.item.NamedConstant.{NamedConstant}
use Rattle.bl_names_tree.specs.declared.item.NamedField.{NamedField}
use Rattle.bl_names_tree.specs.declared.item.NamedStruct.{NamedStruct}
use Rattle.bl_names_tree.specs.declared.item.NamedVar.{NamedVar}
use Rattle.bl_names_tree.specs.declared.types.NamedType.{NamedType}
use Rattle.bl_types.specs.declared.environment.Constant.{Constant}
use Rattle.bl_types.specs.declared.environment.Environment.{Environment}
use Rattle.bl_types.specs.declared.form.Form.{Form}
use Rattle.bl_types.specs.declared.form.Form.TheVariants.{Of}
use Rattle.bl_types.specs.declared.form.Valued.{Valued}
use Rattle.bl_types.specs.Expressions.{Formed, closed_form, in_context, judged}
use Rattle.bl_types.specs.Failures.{unless}
use Rattle.bl_types.specs.Folded.{folded, not_constant, number_or_zero}
use Rattle.bl_types.specs.Settled.{Settled}
use Rattle.bl_types.specs.Written.{bad_lengths, written_type}

-- what is known after a part of the program, and what fails in it
pub record Declaring : Type 0 where
  pub env : Environment
  pub failures : List Failure

-- ---- initial values

-- an initial value with its type, and what fails in it
pub record Initial : Type 0 where
  pub valued : Valued
  pub failures : List Failure

-- the type of a form that has one
abbrev pub type_of_form : Form → Option Ty
type_of_form (Of ty e) = Some ty
type_of_form _ = None

-- the tree of a form that has a type
abbrev pub expr_of_form : Form → Option Expr
expr_of_form (Of ty e) = Some e
expr_of_form _ = None

-- an initial value of a type that is written, after earlier failures
abbrev pub typed_initial : Ty → List Failure → Settled → Initial
typed_initial ty earlier value = record { valued = record { ty = Some ty; value = value.made }; failures = earlier ++ value.failures }

-- an initial value that gives the type, after earlier failures
abbrev pub closed_initial : List Failure → Formed → Initial
closed_initial earlier formed = record {
  valued = record { ty = type_of_form formed.form; value = expr_of_form formed.form };
  failures = earlier ++ formed.failures;
}

-- what is declared has the type that is written, and without one that of its value
abbrev pub initial : Environment → Option NamedType → NamedExpr → Initial
initial env (Some written) e = typed_initial (written_type env.constants written) (bad_lengths env.constants written)
    (in_context (Some (written_type env.constants written)) (judged env e))
initial env None e = closed_initial (judged env e).failures (closed_form (judged env e).form)

-- ---- constants

-- Type: a constant isn't scalar; at its name
abbrev pub not_scalar : Place → Option Ty → List Failure
not_scalar at (Some ty) = unless (is_some (scalar_in ty)) rule.Type at
not_scalar at None = []

-- a constant with this value
abbrev pub constant_of : NamedExpr → Valued → Constant
constant_of e valued = record { ty = option_and_then scalar_in valued.ty; value = number_or_zero (folded e valued.value) }

-- what fails in a constant: its type isn't scalar, or its value is no constant number
abbrev pub constant_failures : Place → NamedExpr → Valued → List Failure
constant_failures name e valued = not_scalar name valued.ty ++ not_constant e valued.value

-- what is known with one constant more
abbrev pub with_constant : Environment → Constant → Environment
with_constant env constant = record env { constants = env.constants ++ constant ∷ [] }

-- what is known after a constant
abbrev pub after_constant : NamedConstant → Environment → Declaring
after_constant constant env =
    let value : Initial = initial env constant.ty constant.value in
    record {
      env = with_constant env (constant_of constant.value value.valued);
      failures = value.failures ++ constant_failures constant.name.place constant.value value.valued;
    }

-- ---- variables

-- what is known with one variable more; none stands for a type that it could not be given
abbrev pub with_variable : Environment → NamedVar → Option Ty → Environment
with_variable env var ty = record env { vars = env.vars ++ record { name = var.name.text; place = var.name.place; ty = ty; role = var.role } ∷ [] }

-- the lengths of a type that fail, where a type is written
abbrev pub optional_lengths : Environment → Option NamedType → List Failure
optional_lengths env (Some written) = bad_lengths env.constants written
optional_lengths env None = []

-- what is known after a variable without a value
abbrev pub after_variable : NamedVar → Environment → Declaring
after_variable var env = record { env = with_variable env var (option_map (written_type env.constants) var.ty); failures = optional_lengths env var.ty }

-- whether a variable of this role is an input or an output
abbrev pub is_parameter : Role → Bool
is_parameter Input = true
is_parameter Output = true
is_parameter Var = false
is_parameter Fixed = false

-- what is known after one declaration and then another
abbrev pub and_then : Declaring → (Environment → Declaring) → Declaring
and_then first then_ = record { env = (then_ first.env).env; failures = first.failures ++ (then_ first.env).failures }

-- the environment as it is, without failures
abbrev pub unchanged : Environment → Declaring
unchanged env = record { env = env; failures = [] }

-- what is known after a variable of a unit, if it is a parameter
abbrev pub after_parameter : NamedVar → Environment → Declaring
after_parameter var env = if is_parameter var.role then after_variable var env else unchanged env

-- what is known after the parameters among the variables of a unit
abbrev pub after_parameters : List NamedVar → Environment → Declaring
after_parameters [] env = unchanged env
after_parameters (var ∷ rest) env = and_then (after_parameter var env) (after_parameters rest)

-- ---- structs

-- a field with its type
abbrev pub field_of : Environment → NamedField → Field
field_of env field = record { name = field.name.text; ty = written_type env.constants field.ty }

-- the lengths in a field's type that fail
abbrev pub field_lengths : Environment → NamedField → List Failure
field_lengths env field = bad_lengths env.constants field.ty

-- a struct with the types of its fields
abbrev pub struct_of : Environment → NamedStruct → StructDef
struct_of env def = record { name = def.name.text; place = def.name.place; fields = map (field_of env) def.fields }

-- what is known after a struct
abbrev pub after_struct : NamedStruct → Environment → Declaring
after_struct def env = record {
  env = record env { structs = env.structs ++ struct_of env def ∷ [] };
  failures = joined (map (field_lengths env) def.fields);
}
