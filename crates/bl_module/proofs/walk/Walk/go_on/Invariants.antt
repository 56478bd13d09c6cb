use Rattle.std.proofs.Common.{◌≡◌, drop}
use Rattle.bl_module.specs.Behind.{after_items, items_stand}
use Rattle.bl_module.proofs.walk.Walk.go_on.Given as goal

abbrev pub invariant-loop-item : goal.invariant-loop-item
invariant-loop-item l = (items_stand l.self (drop l.item-index l.items) ≡ items_stand l.initial.self l.items)
    × (after_items l.self (drop l.item-index l.items) ≡ after_items l.initial.self l.items)
