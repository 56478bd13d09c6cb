-- Walks along the edges of a graph.
use Rattle.std.specs.Prelude.{ℕ, ◌<◌}
use Rattle.bl_graph_nodes.specs.Nodes.{Node}

-- a walk of zero or more edges from the first node to the second
pub data Walk (E : Node → Node → Type 0) : Node → Node → Type 0 where
  stay : (n : Node) → Walk E n n
  on : (n by m : Node) → E n by → Walk E by m → Walk E n m

-- a walk of at least one edge
pub record After (E : Node → Node → Type 0) (n m : Node) : Type 0 where
  pub by : Node
  pub edge : E n by
  pub rest : Walk E by m

-- a node is reached by a walk from a node of F, possibly without edges
pub record Reached (F : Node → Type 0) (E : Node → Node → Type 0) (m : Node) : Type 0 where
  pub from : Node
  pub begins : F from
  pub walk : Walk E from m

-- the edges lead from nodes with lesser numbers to nodes with greater ones
abbrev pub Rises : (Node → ℕ) → (Node → Node → Type 0) → Type 0
Rises rank E = (n m : Node) → E n m → rank n < rank m
