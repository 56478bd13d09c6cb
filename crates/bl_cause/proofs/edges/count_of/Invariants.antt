use Rattle.std.proofs.Common.{◌≤◌, ◌^◌, take}
use Rattle.bl_cause.specs.inner.Lists.{Within}
use Rattle.bl_cause.proofs.edges.count_of.Given as goal

abbrev pub invariant-loop-edge : goal.invariant-loop-edge
invariant-loop-edge l = record {
  few : l.count ≤ 2 ^ 32;
  ends : Within l.count (take l.edge-index l.edges);
}
