use Rattle.std.proofs.Common.{◌≡◌, map, take}
use Rattle.bl_tree.specs.declared.value.Value.TheVariants.{Number}
use Rattle.bl_ctree_store.proofs.ticks.numbers.Given as goal

abbrev pub invariant-loop-k : goal.invariant-loop-k
invariant-loop-k l = l.made ≡ map Number (take l.k l.row)
