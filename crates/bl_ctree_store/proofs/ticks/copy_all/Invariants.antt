use Rattle.std.proofs.Common.{◌≡◌, take}
use Rattle.bl_ctree_store.proofs.ticks.copy_all.Given as goal

abbrev pub invariant-loop-value : goal.invariant-loop-value
invariant-loop-value l = l.made ≡ take l.value-index l.values
