use Rattle.std.proofs.Common.{◌≡◌, ◌++◌, drop, map}
use Rattle.bl_names.specs.Order.{kind_of_item}
use Rattle.bl_names.proofs.item.order.Given as goal

abbrev pub invariant-loop-one : goal.invariant-loop-one
invariant-loop-one l = l.made ++ map kind_of_item (drop l.one-index l.all) ≡ map kind_of_item l.all
