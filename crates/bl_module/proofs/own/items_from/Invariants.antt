use Rattle.std.proofs.Common.{◌≡◌, ◌++◌, drop}
use Rattle.bl_module.specs.Own.{items_from}
use Rattle.bl_module.proofs.own.items_from.Given as goal

abbrev pub invariant-loop-item : goal.invariant-loop-item
invariant-loop-item l = l.made ++ items_from l.known l.next (drop l.item-index l.items) ≡ items_from l.known l.initial.next l.items
