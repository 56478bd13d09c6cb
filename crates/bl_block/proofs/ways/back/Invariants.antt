use Rattle.std.proofs.Common.{◌≡◌, length, drop, replicate}
use Rattle.bl_block.specs.declared.ways.Way.TheVariants.{Nowhere}
use Rattle.bl_block.specs.inner.Ways.{noted_back}
use Rattle.bl_block.proofs.ways.back.Given as goal

abbrev pub invariant-loop-edge : goal.invariant-loop-edge
invariant-loop-edge l = record {
  one_each : length l.ways ≡ length l.nodes;
  goes_on : noted_back (drop l.edge-index l.edges) l.ways ≡ noted_back l.edges (replicate (length l.nodes) Nowhere);
}
