use Rattle.std.proofs.Common.{◌≡◌, ◌≤◌, length, take}
use Rattle.bl_simplify_walk.proofs.same.+comparing.Given as goal

abbrev pub invariant-are_same_steps-loop-k : goal.invariant-are_same_steps-loop-k
invariant-are_same_steps-loop-k l = record {
  lengths : length l.a ≡ length l.b;
  end : l.k-end ≡ length l.a;
  within : l.k ≤ length l.a;
  same : take l.k l.a ≡ take l.k l.b;
}

abbrev pub invariant-are_same_args-loop-k : goal.invariant-are_same_args-loop-k
invariant-are_same_args-loop-k l = record {
  lengths : length l.a ≡ length l.b;
  end : l.k-end ≡ length l.a;
  within : l.k ≤ length l.a;
  same : take l.k l.a ≡ take l.k l.b;
}
