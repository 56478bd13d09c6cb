-- What a typed program keeps.
use Rattle.std.specs.Prelude.{ℕ, ◌+◌, Bool, true, false, ◌&&◌, ◌||◌, nat_le, is_none, is_some, List, [], ◌∷◌, ◌++◌, map, length, take, drop, slice_get, Option}
use Rattle.std.specs.Prelude.{Some, None, IsTrue}
use Rattle.std.specs.List.{list_all}
use Rattle.bl_tree.specs.declared.tree.Role.{Role}
use Rattle.bl_tree.specs.declared.tree.Role.TheVariants.{Input, Output}
use Rattle.bl_tree.specs.declared.tree.StructDef.{StructDef}
use Rattle.bl_tree.specs.declared.tree.Unit.{Unit as UnitDef}
use Rattle.bl_tree.specs.declared.tree.Var.{Var}
use Rattle.bl_tree.specs.Apart.{is_apart}
use Rattle.bl_tree.specs.Depths.{is_shallow}
use Rattle.bl_tree.specs.Returns.{unit_returns}
use Rattle.bl_tree.specs.Types.{type_stands, scalar_in}
use Rattle.bl_tree.specs.Typing.{fits, site_of, is_activity, is_fixed, is_inhabited, is_variable, inputs_of, outputs_of}
use Rattle.bl_tree.specs.Within.{PlacesDecide, RunsDecide}
use Rattle.bl_tree.specs.Words.{are_distinct, is_name}

-- ---- structs

-- the names of a struct's fields, in order
abbrev pub field_names : StructDef → List (List ℕ)
field_names def = map (λ field. field.name) def.fields

-- whether the struct at this position has a field, its fields' names are names and differ, and their types name earlier structs alone
abbrev pub struct_stands : ℕ → StructDef → Bool
struct_stands before def =
    is_inhabited def.fields
    && ((list_all is_name (field_names def) && are_distinct (field_names def))
    && list_all (λ field. type_stands before field.ty) def.fields)

-- whether each struct of a list stands, where the first has this position
abbrev pub structs_stand_from : ℕ → List StructDef → Bool
structs_stand_from before [] = true
structs_stand_from before (def ∷ rest) = struct_stands before def && structs_stand_from (before + 1) rest

-- ---- units

-- whether a variable is an input parameter
abbrev pub is_input : Role → Bool
is_input Input = true
is_input _ = false

-- whether a variable is an output parameter
abbrev pub is_output : Role → Bool
is_output Output = true
is_output _ = false

-- the variables that the body of a unit declares
abbrev pub locals_of : UnitDef → List Var
locals_of unit = drop (unit.inputs + unit.outputs) unit.vars

-- whether the inputs stand first, then the outputs, then what the body declares
abbrev pub roles_stand : UnitDef → Bool
roles_stand unit =
    nat_le (unit.inputs + unit.outputs) (length unit.vars)
    && (list_all (λ var. is_input var.role) (inputs_of unit)
    && (list_all (λ var. is_output var.role) (outputs_of unit)
    && list_all (λ var. is_variable var.role || is_fixed var.role) (locals_of unit)))

-- the inputs and then the outputs of a unit
abbrev pub parameters_of : UnitDef → List Var
parameters_of unit = take (unit.inputs + unit.outputs) unit.vars

-- the names of variables, in order
abbrev pub names_of : List Var → List (List ℕ)
names_of vars = map (λ var. var.name) vars

-- whether a unit is well-formed: roles, names, types, statements, `return`s, nesting, and branches that keep apart
abbrev pub unit_stands : List StructDef → List UnitDef → UnitDef → Bool
unit_stands structs earlier unit =
    (roles_stand unit && (list_all is_name (names_of unit.vars) && are_distinct (names_of (parameters_of unit))))
    && (list_all (λ var. type_stands (length structs) var.ty) unit.vars
    && (list_all (fits (site_of structs earlier unit)) unit.body
    && (unit_returns unit && (is_shallow 200 unit.body && list_all is_apart unit.body))))

-- whether each unit of a list is well-formed, where the earlier ones stand before it
abbrev pub units_stand_after : List StructDef → List UnitDef → List UnitDef → Bool
units_stand_after structs earlier [] = true
units_stand_after structs earlier (unit ∷ rest) =
    unit_stands structs earlier unit && units_stand_after structs (earlier ++ unit ∷ []) rest

-- ---- the whole

-- the names of all structs, and then those of all units
abbrev pub all_names : List StructDef → List UnitDef → List (List ℕ)
all_names structs units = map (λ def. def.name) structs ++ map (λ unit. unit.name) units

-- an activity without a result, all of whose parameters are scalar
abbrev pub is_entry : Option UnitDef → Bool
is_entry (Some unit) = is_activity unit.kind && (is_none unit.result && list_all (λ var. is_some (scalar_in var.ty)) (parameters_of unit))
is_entry None = false

-- what holds of the parts of every `Program`
pub record IsWellTyped (structs : List StructDef) (units : List UnitDef) (entry : ℕ) : Type 0 where
  -- the names of structs and units are names
  pub named : IsTrue (list_all is_name (all_names structs units))
  -- the names of structs and units are distinct
  pub distinct : IsTrue (are_distinct (all_names structs units))
  -- each struct has a field, its fields' names are names and differ, lengths are from 1 to 65536, and it uses earlier ones alone
  pub structs_stand : IsTrue (structs_stand_from 0 structs)
  -- each unit stands, and uses earlier ones alone
  pub units_stand : IsTrue (units_stand_after structs [] units)
  -- the entry is an activity that the environment can drive
  pub entry_stands : IsTrue (is_entry (slice_get units entry))
  -- statements of one place have the same effects
  pub places_decide : PlacesDecide units
  -- `run` statements of one place are the same, and don't stand in two branches of one `cobegin`
  pub runs_decide : RunsDecide units
