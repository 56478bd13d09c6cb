use Rattle.std.proofs.Common.{Some, ℕ}
use Rattle.std.specs.Prelude.{Contains}
use Rattle.bl_graph.specs.Accesses.{writers_at, writers_of}
use Rattle.bl_cause.specs.inner.Walked.{up_to}
use Rattle.bl_cause.proofs.walked.is_writer.Given as goal

abbrev pub invariant-loop-at : goal.invariant-loop-at
invariant-loop-at l = (node : ℕ) → Contains (writers_at (writers_of l.accesses) l.at) node
    → Contains (writers_at (writers_of l.accesses) (Some l.position)) node

abbrev pub decreases-loop-at : goal.decreases-loop-at
decreases-loop-at l = up_to l.at
