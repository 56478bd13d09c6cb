-- How the items of one text are judged behind its own start, and among those of other texts.
use Rattle.std.specs.Prelude.{◌≡◌, ◌+◌, List, ◌++◌, map, length, Some, None}
use Rattle.bl_tree.specs.declared.tree.StructDef.{StructDef}
use Rattle.bl_tree.specs.declared.tree.Unit.{Unit as UnitDef}
use Rattle.bl_tree_laws_places.specs.Placed.{placed_structs, placed_units}
use Rattle.bl_names_laws_files.specs.Laws.{StandsFrom}
use Rattle.bl_names_laws_places.specs.Renamed.{Renaming, renamed_constant, renamed_struct, renamed_unit}
use Rattle.bl_names_tree.specs.declared.item.Item.{Item}
use Rattle.bl_names_tree.specs.declared.item.NamedConstant.{NamedConstant}
use Rattle.bl_names_tree.specs.declared.item.NamedStruct.{NamedStruct}
use Rattle.bl_names_tree.specs.declared.item.NamedUnit.{NamedUnit}
use Rattle.bl_names_tree.specs.declared.named.Named.{Named}
use Rattle.bl_names_tree.specs.Placed.{DeclaredBefore, in_turn, item_step}
use Rattle.bl_types.specs.declared.environment.Constant.{Constant}
use Rattle.bl_types.specs.declared.environment.Environment.{Environment}
use Rattle.bl_types.specs.Declarations.{Declaring, and_then}
use Rattle.bl_types.specs.Programs.{after_items}
use Rattle.bl_types_laws.specs.Within.{known_in}
use Rattle.bl_types_laws_places.specs.Agree.{EnvironmentsAgree, placed_failures}

-- ---- items one after another

-- typing items one after another is typing the first, and then the others with what is known after the first
abbrev pub ItemsFollow : Type 0
ItemsFollow = (named : Named) (first second : List Item) (env : Environment) →
    after_items named (first ++ second) env ≡ and_then (after_items named first env) (after_items named second)

-- ---- what comes next in a program

-- these structs, constants and units of a program come next, where an environment knows those before them
pub record ComeNext (env : Environment) (named : Named) (own_structs : List NamedStruct) (own_constants : List NamedConstant)
    (own_units : List NamedUnit) : Type 0 where
  pub structs : StandsFrom named.structs (length env.structs) own_structs
  pub constants : StandsFrom named.constants (length env.constants) own_constants
  pub units : StandsFrom named.units (length env.units) own_units

-- the counts outside of units, once these structs, constants and units are declared too
abbrev pub counts_behind : DeclaredBefore → List NamedStruct → List NamedConstant → List NamedUnit → DeclaredBefore
counts_behind earlier structs constants units = record {
  structs = earlier.structs + length structs;
  constants = earlier.constants + length constants;
  units = earlier.units + length units;
  variables = 0;
}

-- ---- what is known after items

-- what is known after items extends what is known before them, up to these counts
pub record KnownAfter (env after : Environment) (counts : DeclaredBefore) : Type 0 where
  pub structs : List StructDef
  pub has_structs : after.structs ≡ env.structs ++ structs
  pub constants : List Constant
  pub has_constants : after.constants ≡ env.constants ++ constants
  pub units : List UnitDef
  pub has_units : after.units ≡ env.units ++ units
  pub counts_are : known_in after ≡ counts
  pub result : env.result ≡ None → after.result ≡ None

-- items whose positions are in place, where an environment knows what comes before them, declare as much as is counted
abbrev pub ItemsAreKnown : Type 0
ItemsAreKnown = (named : Named) (order : List Item) (env : Environment) (counts : DeclaredBefore) →
    in_turn (map (item_step named) order) (known_in env) ≡ Some counts → KnownAfter env (after_items named order env).env counts

-- ---- agreement

-- items fail at the mapped places, what they declare is equal up to places, and what is known after them agrees
pub record ItemsAlike (by : Renaming) (near far : Environment) (one two : Declaring) : Type 0 where
  pub failures : two.failures ≡ placed_failures by.place one.failures
  pub agree : EnvironmentsAgree by one.env two.env
  pub structs : List StructDef
  pub near_structs : one.env.structs ≡ near.structs ++ structs
  pub far_structs : two.env.structs ≡ far.structs ++ placed_structs by.place structs
  pub constants : List Constant
  pub near_constants : one.env.constants ≡ near.constants ++ constants
  pub far_constants : two.env.constants ≡ far.constants ++ constants
  pub units : List UnitDef
  pub near_units : one.env.units ≡ near.units ++ units
  pub far_units : two.env.units ≡ far.units ++ placed_units by.place units

-- items whose positions are in place are judged alike in two programs, if what is known before them agrees. The other program has them with mapped
-- places and changed positions of constants
abbrev pub ItemsAgree : Type 0
ItemsAgree = (by : Renaming) (near far : Environment) (one other : Named) (order : List Item) (structs : List NamedStruct)
    (constants : List NamedConstant) (units : List NamedUnit) → EnvironmentsAgree by near far → ComeNext near one structs constants units →
    ComeNext far other (map (renamed_struct by) structs) (map (renamed_constant by) constants) (map (renamed_unit by) units) →
    in_turn (map (item_step one) order) (known_in near) ≡ Some (counts_behind (known_in near) structs constants units) →
    ItemsAlike by near far (after_items one order near) (after_items other order far)
