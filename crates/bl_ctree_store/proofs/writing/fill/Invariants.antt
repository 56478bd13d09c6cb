use Rattle.std.proofs.Common.{◌≡◌, ◌++◌, length, take, drop}
use Rattle.bl_ctree_store.proofs.writing.fill.Given as goal

abbrev pub invariant-loop-k : goal.invariant-loop-k
invariant-loop-k l = record {
  values : l.values.items ≡ take l.k l.initial.inputs.items ++ drop l.k l.initial.values.items;
  left : drop l.k l.inputs.items ≡ drop l.k l.initial.inputs.items;
  long : length l.inputs.items ≡ length l.initial.inputs.items;
}
