-- Accesses with more of them behind.
use Rattle.std.specs.Prelude.{◌≡◌, ℕ, List, ◌++◌, Some, slice_get}
use Rattle.bl_tree.specs.declared.graph.Edge.{Edge}
use Rattle.bl_graph.specs.declared.accesses.Access.{Access}
use Rattle.bl_graph.specs.Accesses.{flows, writers_of}

-- each access before has its writers after, and the edges are those before and the given ones
pub record Gains (before after : List Access) (edges : List Edge) : Type 0 where
  pub keeps : (k : ℕ) (writers : List ℕ) → slice_get (writers_of before) k ≡ Some writers → slice_get (writers_of after) k ≡ Some writers
  pub grows : flows after ≡ flows before ++ edges
