-- What a raw tree keeps.
use Rattle.std.specs.Prelude.{List, IsTrue}
use Rattle.std.specs.List.{list_all}
use Rattle.bl_parse_tree.specs.declared.item.RawItem.{RawItem}
use Rattle.bl_parse_tree.specs.Depths.{item_shallow}
use Rattle.bl_parse_tree.specs.Names.{item_stands}
use Rattle.bl_parse_tree.specs.Starts.{all_starts, ascends}

-- what holds of the items of every tree that a text spells within the limits of rule Depth
pub record RawIsWellFormed (items : List RawItem) : Type 0 where
  -- every name is a name; each struct has a field, each `if` an arm, each `cobegin` a branch, each `var` a type or a value
  pub stand : IsTrue (list_all item_stands items)
  -- blocks nest at most 100 deep, and operators, casts, calls and indexes at most 200 deep
  pub shallow : IsTrue (list_all item_shallow items)
  -- statements and conditions of loops begin one after another, so no two of them have one place
  pub in_order : IsTrue (ascends (all_starts items))
