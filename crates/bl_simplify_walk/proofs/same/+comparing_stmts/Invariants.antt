use Rattle.std.proofs.Common.{◌≡◌, ◌≤◌, length, take}
use Rattle.bl_simplify_walk.proofs.same.+comparing_stmts.Given as goal

abbrev pub invariant-is_same_block-loop-k : goal.invariant-is_same_block-loop-k
invariant-is_same_block-loop-k l = record {
  lengths : length l.a ≡ length l.b;
  end : l.k-end ≡ length l.a;
  within : l.k ≤ length l.a;
  same : take l.k l.a ≡ take l.k l.b;
}
