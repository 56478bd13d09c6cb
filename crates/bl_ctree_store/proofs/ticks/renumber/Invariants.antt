use Rattle.std.proofs.Common.{◌≡◌, ◌++◌, length, map, take, drop}
use Rattle.bl_ctree_store.specs.Ageing.{as_number}
use Rattle.bl_ctree_store.proofs.ticks.renumber.Given as goal

abbrev pub invariant-loop-k : goal.invariant-loop-k
invariant-loop-k l = record {
  values : l.values.items ≡ map as_number (take l.k l.others) ++ drop l.k l.initial.values.items;
  long : length l.values.items ≡ length l.initial.values.items;
}
