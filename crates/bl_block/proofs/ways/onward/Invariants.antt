use Rattle.std.proofs.Common.{◌≡◌, length, drop, replicate}
use Rattle.bl_block.specs.declared.ways.Way.TheVariants.{Nowhere}
use Rattle.bl_block.specs.inner.Ways.{noted_on}
use Rattle.bl_block.proofs.ways.onward.Given as goal

abbrev pub invariant-loop-edge : goal.invariant-loop-edge
invariant-loop-edge l = record {
  one_each : length l.ways ≡ length l.nodes;
  goes_on : noted_on l.nodes (drop l.edge-index l.edges) l.ways ≡ noted_on l.nodes l.edges (replicate (length l.nodes) Nowhere);
}
