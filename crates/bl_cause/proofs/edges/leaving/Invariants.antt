use Rattle.std.proofs.Common.{take}
use Rattle.bl_cause.specs.inner.Lists.{Rows, edges_from}
use Rattle.bl_cause.proofs.edges.leaving.Given as goal

abbrev pub invariant-loop-edge : goal.invariant-loop-edge
invariant-loop-edge l = Rows (edges_from (take l.edge-index l.edges)) l.count l.rows
