-- Nodes that are sorted by numbers which rise along every edge.
use Rattle.std.specs.Prelude.{ℕ, List, slice_index}
use Rattle.std.specs.List.Sorted.{IsNonDecreasingBy}
use Rattle.bl_tree.specs.declared.graph.Edge.{Edge}
use Rattle.bl_cause.specs.Ranks.{Ranks}

-- the nodes are sorted by some numbers that rise along every edge
pub record AreInOrder (edges : List Edge) (nodes : List ℕ) : Type 0 where
  pub ranks : List ℕ
  pub rise : Ranks edges ranks
  pub sorted : IsNonDecreasingBy (slice_index ranks) nodes
