-- What the items of a program are, in the order in which they stand.
use Rattle.std.specs.Prelude.{List, map}
use Rattle.bl_names_tree.specs.declared.item.Item.{Item}
use Rattle.bl_names_tree.specs.declared.item.Item.TheVariants as kind
use Rattle.bl_parse_tree.specs.declared.item.RawItem.{RawItem}
use Rattle.bl_parse_tree.specs.declared.item.RawItem.TheVariants as item

-- whether an item is a struct, a constant or a unit
abbrev pub kind_of_item : RawItem → Item
kind_of_item (item.Struct def) = kind.Struct
kind_of_item (item.Constant def) = kind.Constant
kind_of_item (item.Unit def) = kind.Unit

-- what the items are, in the order in which they stand
abbrev pub order_of : List RawItem → List Item
order_of items = map kind_of_item items
