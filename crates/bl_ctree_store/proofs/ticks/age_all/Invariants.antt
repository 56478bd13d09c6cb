use Rattle.std.proofs.Common.{◌≡◌, ◌++◌, length, map, take, drop}
use Rattle.bl_ctree.specs.Store.{aged}
use Rattle.bl_ctree_store.specs.Seen.{store_of}
use Rattle.bl_ctree_store.proofs.ticks.age_all.Given as goal

abbrev pub invariant-loop-k : goal.invariant-loop-k
invariant-loop-k l = record {
  frames : store_of l.frames.items ≡ map aged (take l.k (store_of l.initial.frames.items)) ++ drop l.k (store_of l.initial.frames.items);
  long : length l.frames.items ≡ length l.initial.frames.items;
}
