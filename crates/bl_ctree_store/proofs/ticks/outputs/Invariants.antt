use Rattle.std.proofs.Common.{◌≡◌, ◌++◌, length, take, drop}
use Rattle.bl_ctree.specs.Store.{outputs_row}
use Rattle.bl_ctree_store.specs.Seen.{setting_in, store_of}
use Rattle.bl_ctree_store.proofs.ticks.outputs.Given as goal

abbrev pub invariant-loop-k : goal.invariant-loop-k
invariant-loop-k l = record {
  row : l.into ≡ take l.k (outputs_row (setting_in l.w) (store_of l.frames)) ++ drop l.k l.initial.into;
  long : length l.into ≡ length (outputs_row (setting_in l.w) (store_of l.frames));
}
