use Rattle.std.proofs.Common.{take}
use Rattle.bl_cause.specs.inner.Lists.{Rows, edges_into}
use Rattle.bl_cause.proofs.edges.entering.Given as goal

abbrev pub invariant-loop-edge : goal.invariant-loop-edge
invariant-loop-edge l = Rows (edges_into (take l.edge-index l.edges)) l.count l.rows
