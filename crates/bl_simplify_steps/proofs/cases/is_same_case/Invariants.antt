use Rattle.std.proofs.Common.{◌≡◌, ◌≤◌, length, take}
use Rattle.bl_simplify_steps.proofs.cases.is_same_case.Given as goal

abbrev pub invariant-loop-k : goal.invariant-loop-k
invariant-loop-k l = record {
  lengths : length l.a ≡ length l.b;
  end : l.k-end ≡ length l.a;
  within : l.k ≤ length l.a;
  same : take l.k l.a ≡ take l.k l.b;
}
