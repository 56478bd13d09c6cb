-- The items of a face stand one behind another, and declare what is known.
use Rattle.std.proofs.Common.{ℕ, List, [], ◌∷◌, refl, sym, subst, ◌∙◌, append-nil}
use Rattle.bl_names_tree.specs.declared.named.Named.{Named}
use Rattle.bl_parse_tree.specs.declared.item.RawItem.{RawItem}
use Rattle.bl_parse_tree.specs.declared.item.RawItem.TheVariants as item
use Rattle.bl_types.specs.declared.environment.Known.{Known}
use Rattle.bl_types_laws_places.specs.Agree.{SameHeads, SameStructs}
use Rattle.bl_module_laws_faces.proofs.Adding.{Adding, Shallow}
use Rattle.bl_module_laws_faces.proofs.Structs.{struct_adds}
use Rattle.bl_module_laws_faces.proofs.Constants.{constant_adds}
use Rattle.bl_module_laws_faces.proofs.Units.{unit_adds}

module _ (named : Named) (known : Known) (from_structs from_units : ℕ) (shallow : Shallow named known from_structs from_units) where
  turn : (one : RawItem) (items : List RawItem) → Adding named known from_structs from_units items →
      Adding named known from_structs from_units (one ∷ items)
  turn (item.Struct def) items rest = struct_adds named known from_structs from_units shallow def items rest
  turn (item.Constant def) items rest = constant_adds named known from_structs from_units def items rest
  turn (item.Unit def) items rest = unit_adds named known from_structs from_units shallow def items rest

  -- the items of a file whose names and types pass
  pub items_add : (items : List RawItem) → Adding named known from_structs from_units items
  items_add [] scopes env walk here agrees none structs units globals = record {
    stand = refl;
    headings = sym (append-nil walk.behind.headings);
    structs = subst (SameStructs walk.behind.structs) (sym structs) agrees.structs;
    constants = sym (globals ∙ append-nil walk.behind.constants);
    units = subst (SameHeads walk.behind.units) (sym units) agrees.units;
  }
  items_add (one ∷ items) scopes env walk here agrees none structs units globals =
      turn one items (items_add items) scopes env walk here agrees none structs units globals
