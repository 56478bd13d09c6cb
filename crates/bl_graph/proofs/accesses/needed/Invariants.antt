use Rattle.std.proofs.Common.{◌≡◌, ◌≤◌, length}
use Rattle.bl_graph.specs.inner.Needed.{AreNeeded}
use Rattle.bl_graph.proofs.accesses.needed.Given as goal

abbrev pub invariant-loop-k : goal.invariant-loop-k
invariant-loop-k l = record {
  below : l.k ≤ length l.accesses;
  size : length l.needed ≡ length l.accesses;
  needed : AreNeeded l.accesses l.k l.needed;
}

abbrev pub decreases-loop-k : goal.decreases-loop-k
decreases-loop-k l = l.k
