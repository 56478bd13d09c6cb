-- What is known before one text in two places, where places are mapped and constants have other positions.
use Rattle.std.specs.Prelude.{◌≡◌, ◌⊎◌, ℕ, ◌+◌, List, [], map, length, slice_get, Option}
use Rattle.bl_tree.specs.declared.place.Place.{Place}
use Rattle.bl_tree.specs.declared.rule.Failure.{Failure}
use Rattle.bl_tree.specs.declared.rule.Further.{Further}
use Rattle.bl_tree.specs.declared.rule.Further.TheVariants as further
use Rattle.bl_tree.specs.declared.scalar.Scalar.{Scalar as ScalarType}
use Rattle.bl_tree.specs.declared.tree.StructDef.{StructDef}
use Rattle.bl_tree.specs.declared.tree.Unit.{Unit as UnitDef}
use Rattle.bl_tree.specs.declared.tree.UnitKind.{UnitKind}
use Rattle.bl_tree.specs.declared.tree.Var.{Var}
use Rattle.bl_tree.specs.Typing.{inputs_of, outputs_of}
use Rattle.bl_tree_laws_places.specs.Placed.{placed_structs, placed_var}
use Rattle.bl_names_laws_places.specs.Renamed.{Renaming}
use Rattle.bl_types.specs.declared.environment.Environment.{Environment}
use Rattle.bl_types.specs.declared.environment.Variable.{Variable}

-- ---- failures

-- the further places of a line, each of them mapped
abbrev pub placed_further : (Place → Place) → Further → Further
placed_further f further.Nothing = further.Nothing
placed_further f (further.One p) = further.One (f p)
placed_further f (further.Two p q) = further.Two (f p) (f q)

-- a failure of the rule at the mapped place, with mapped further places
abbrev pub placed_failure : (Place → Place) → Failure → Failure
placed_failure f failure = record { rule = failure.rule; at = f failure.at; further = placed_further f failure.further }

-- failures with all places mapped
abbrev pub placed_failures : (Place → Place) → List Failure → List Failure
placed_failures f failures = map (placed_failure f) failures

-- ---- what is known

-- a variable of a unit at the mapped place
abbrev pub placed_variable : (Place → Place) → Variable → Variable
placed_variable f var = record { name = var.name; place = f var.place; ty = var.ty; role = var.role }

-- the empty place at the start of a text, whatever the place
abbrev pub unplaced : Place → Place
unplaced place = record { start = 0; end = 0 }

-- two lists of structs have equal names and fields in order, wherever they stand
abbrev pub SameStructs : List StructDef → List StructDef → Type 0
SameStructs near far = placed_structs unplaced far ≡ placed_structs unplaced near

-- what a unit shows to those that call it, without places
pub record UnitHead : Type 0 where
  pub name : List ℕ
  pub kind : UnitKind
  pub inputs : List Var
  pub outputs : List Var
  pub input_count : ℕ
  pub output_count : ℕ
  pub result : Option ScalarType

-- the head of a unit: its name, its kind, its parameters and its result
abbrev pub head_of_unit : UnitDef → UnitHead
head_of_unit unit = record {
  name = unit.name;
  kind = unit.kind;
  inputs = map (placed_var unplaced) (inputs_of unit);
  outputs = map (placed_var unplaced) (outputs_of unit);
  input_count = unit.inputs;
  output_count = unit.outputs;
  result = unit.result;
}

-- two lists of units have equal heads in order, wherever they stand and whatever their bodies
abbrev pub SameHeads : List UnitDef → List UnitDef → Type 0
SameHeads near far = map head_of_unit far ≡ map head_of_unit near

-- one environment knows what the other does, with mapped places and constants at other positions
pub record EnvironmentsAgree (by : Renaming) (near far : Environment) : Type 0 where
  pub structs : SameStructs near.structs far.structs
  -- a constant stands at its other position; if there is none in the one environment, there is none in the other
  pub constants : (k : ℕ) → slice_get far.constants (by.constant k) ≡ slice_get near.constants k
  -- the constants that are declared next get corresponding positions
  pub next : (j : ℕ) → by.constant (length near.constants + j) ≡ length far.constants + j
  pub units : SameHeads near.units far.units
  pub vars : far.vars ≡ map (placed_variable by.place) near.vars
  -- the kind of the unit counts only for `prev` of one of its variables
  pub kind : (near.vars ≡ []) ⊎ (far.kind ≡ near.kind)
  pub result : far.result ≡ near.result
