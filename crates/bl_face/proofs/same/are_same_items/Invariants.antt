use Rattle.std.proofs.Common.{◌≡◌, ◌≤◌, take, length}
use Rattle.bl_face.proofs.same.are_same_items.Given as goal

abbrev pub invariant-loop-k : goal.invariant-loop-k
invariant-loop-k l = record {
  lengths : length l.ones ≡ length l.others;
  end : l.k-end ≡ length l.ones;
  within : l.k ≤ length l.ones;
  same : take l.k l.ones ≡ take l.k l.others;
}
