-- The named trees of one text behind two starts whose scopes correspond.
use Rattle.std.specs.Prelude.{◌≡◌, List, map}
use Rattle.bl_joined.specs.Trees.{placed_item}
use Rattle.bl_names.specs.Named.{along, constants_of, structs_of, units_of}
use Rattle.bl_names_scopes.specs.Marks.{marks_of}
use Rattle.bl_names_scopes.specs.Rules.{PassesBehind}
use Rattle.bl_names_scopes.specs.Scopes.{Scopes}
use Rattle.bl_names_scopes_laws_places.specs.Agree.{ScopesAgree}
use Rattle.bl_parse_tree.specs.declared.item.RawItem.{RawItem}
use Rattle.bl_names_laws_places.specs.Renamed.{Renaming, renamed_constant, renamed_struct, renamed_unit}

-- items that were named in one scope are named in the other with mapped places, where constants have other positions
pub record SameItems (by : Renaming) (one other : Scopes) (items : List RawItem) : Type 0 where
  pub structs : along structs_of other (map (placed_item by.place) items) ≡ map (renamed_struct by) (along structs_of one items)
  pub constants : along constants_of other (map (placed_item by.place) items) ≡ map (renamed_constant by) (along constants_of one items)
  pub units : along units_of other (map (placed_item by.place) items) ≡ map (renamed_unit by) (along units_of one items)

-- items whose names pass the rules behind a start are named alike behind each start that corresponds to it
abbrev pub NamesAgree : Type 0
NamesAgree = (by : Renaming) (one other : Scopes) → ScopesAgree by.constant one other → (items : List RawItem) → PassesBehind one (marks_of items) →
    SameItems by one other items
