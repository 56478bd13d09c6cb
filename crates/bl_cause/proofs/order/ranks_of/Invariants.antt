use Rattle.std.proofs.Common.{◌≡◌, length, drop, replicate}
use Rattle.bl_cause.specs.inner.Orders.{ranked}
use Rattle.bl_cause.proofs.order.ranks_of.Given as goal

abbrev pub invariant-loop-rank : goal.invariant-loop-rank
invariant-loop-rank l = record {
  one_each : length l.ranks ≡ l.count;
  goes_on : ranked (drop l.rank l.order) l.rank l.ranks ≡ ranked l.order 0 (replicate l.count 0);
}
