use Rattle.std.proofs.Common.{◌≡◌, drop}
use Rattle.bl_ctree_store.specs.Ageing.{are_numbers}
use Rattle.bl_ctree_store.proofs.ticks.are_numbers.Given as goal

abbrev pub invariant-loop-value : goal.invariant-loop-value
invariant-loop-value l = are_numbers (drop l.value-index l.values) ≡ are_numbers l.values
