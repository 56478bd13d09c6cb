-- What a named tree keeps.
use Rattle.std.specs.Prelude.{ℕ, Bool, ◌&&◌, List, ◌++◌, map, take, IsTrue}
use Rattle.std.specs.List.{list_all}
use Rattle.bl_tree.specs.Typing.{is_inhabited}
use Rattle.bl_tree.specs.Words.{are_distinct, is_name}
use Rattle.bl_names_tree.specs.declared.item.NamedStruct.{NamedStruct}
use Rattle.bl_names_tree.specs.declared.item.NamedUnit.{NamedUnit}
use Rattle.bl_names_tree.specs.declared.item.NamedVar.{NamedVar}
use Rattle.bl_names_tree.specs.declared.named.Named.{Named}
use Rattle.bl_names_laws.specs.Apart.{is_apart}
use Rattle.bl_names_laws.specs.Depths.{is_shallow}
use Rattle.bl_names_laws.specs.Filled.{is_filled}
use Rattle.bl_names_tree.specs.Placed.{IsPlaced, parameters}
use Rattle.bl_names_tree.specs.Starts.{all_starts}
use Rattle.bl_parse_tree.specs.Starts.{ascends}

-- whether the name of a variable is a name
abbrev pub has_name : NamedVar → Bool
has_name var = is_name var.name.text

-- the texts of the names of variables, in order
abbrev pub names_of : List NamedVar → List (List ℕ)
names_of vars = map (λ var. var.name.text) vars

-- the texts of the names of a struct's fields, in order
abbrev pub field_names : NamedStruct → List (List ℕ)
field_names def = map (λ field. field.name.text) def.fields

-- whether a struct has a field, and the names of its fields are names
abbrev pub fields_named : NamedStruct → Bool
fields_named def = is_inhabited def.fields && list_all is_name (field_names def)

-- whether no two fields of a struct share a name
abbrev pub fields_differ : NamedStruct → Bool
fields_differ def = are_distinct (field_names def)

-- whether the names of a unit's variables are names
abbrev pub variables_named : NamedUnit → Bool
variables_named unit = list_all has_name unit.vars

-- whether no two parameters of a unit share a name
abbrev pub parameters_differ : NamedUnit → Bool
parameters_differ unit = are_distinct (names_of (take (parameters unit) unit.vars))

-- whether the statements of a unit have what the grammar wants
abbrev pub body_filled : NamedUnit → Bool
body_filled unit = list_all (is_filled unit.vars) unit.body

-- whether nothing in a unit is nested too deep
abbrev pub body_shallow : NamedUnit → Bool
body_shallow unit = is_shallow unit.body

-- whether the branches in a unit keep apart
abbrev pub body_apart : NamedUnit → Bool
body_apart unit = list_all is_apart unit.body

-- whether a struct has a field, and the names of its fields are names and differ
abbrev pub struct_stands : NamedStruct → Bool
struct_stands def = fields_named def && fields_differ def

-- whether a named unit is well-formed: names, distinct parameters, complete statements, bounded nesting, and branches that keep apart
abbrev pub unit_stands : NamedUnit → Bool
unit_stands unit = (variables_named unit && parameters_differ unit) && (body_filled unit && (body_shallow unit && body_apart unit))

-- the texts of the names of all structs, and then of all units
abbrev pub all_names : Named → List (List ℕ)
all_names named = map (λ def. def.name.text) named.structs ++ map (λ unit. unit.name.text) named.units

-- what holds of the named tree of every text in which names are declared once, known and of the right kind
pub record NamedIsWellFormed (named : Named) : Type 0 where
  -- every position is that of what is declared before
  pub placed : IsPlaced named
  -- the names of structs and units are names
  pub names : IsTrue (list_all is_name (all_names named))
  -- the names of structs and units are distinct
  pub distinct : IsTrue (are_distinct (all_names named))
  -- each struct has a field, and the names of its fields are names and differ
  pub structs : IsTrue (list_all struct_stands named.structs)
  -- each unit is well-formed: names, distinct parameters, complete statements, bounded nesting, and branches that keep apart
  pub units : IsTrue (list_all unit_stands named.units)
  -- statements and conditions of loops begin one after another, so no two of them have one place
  pub in_order : IsTrue (ascends (all_starts named))
