use Rattle.std.proofs.Common.{◌≡◌, take}
use Rattle.bl_cause.specs.inner.Lists.{level_edges}
use Rattle.bl_cause.proofs.first.level_edges.Given as goal

abbrev pub invariant-loop-edge : goal.invariant-loop-edge
invariant-loop-edge l = l.left ≡ level_edges l.numbers l.by_data (take l.edge-index l.edges)
