use Rattle.std.proofs.Common.{◌≡◌, map, take}
use Rattle.bl_cause.specs.inner.Walked.{edge_of}
use Rattle.bl_cause.proofs.walked.edges_of.Given as goal

abbrev pub invariant-loop-passed : goal.invariant-loop-passed
invariant-loop-passed l = l.edges ≡ map edge_of (take l.passed-index l.walk)
