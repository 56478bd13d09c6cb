use Rattle.std.proofs.Common.{◌≡◌, true, ◌++◌, map, take}
use Rattle.std.specs.Prelude.{Contains}
use Rattle.bl_graph.specs.Accesses.{flows}
use Rattle.bl_cause.specs.Walks.{EdgeWalk}
use Rattle.bl_cause.specs.inner.Walked.{edge_of}
use Rattle.bl_cause.proofs.walked.is_closed.Given as goal

abbrev pub invariant-loop-passed : goal.invariant-loop-passed
invariant-loop-passed l = l.yes ≡ true
    → Contains (l.kept.control.now ++ flows l.kept.accesses.now) l.first.edge
    × EdgeWalk (l.kept.control.now ++ flows l.kept.accesses.now) l.first.edge.to (map edge_of (take l.passed-index l.rest)) l.at
