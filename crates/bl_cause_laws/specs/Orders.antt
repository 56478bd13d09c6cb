-- Tick graphs and orders, of all bodies and of all graphs without a closed walk.
use Rattle.std.specs.Prelude.{ℕ, List}
use Rattle.bl_tree.specs.declared.graph.Edge.{Edge}
use Rattle.bl_graph.specs.declared.tick_graph.Graph.{Graph}
use Rattle.bl_tree.specs.declared.tree.Stmt.{Stmt}
use Rattle.bl_graph_nodes.specs.Plain.{plain_body}
use Rattle.bl_graph.specs.Graph.{IsTickGraph}
use Rattle.bl_cause.specs.Ranks.{Ranks}
use Rattle.bl_cause.specs.Walks.{ClosedWalk}

-- a tick graph of the body
pub record HasGraph (body : List Stmt) : Type 0 where
  pub graph : Graph
  pub is_graph : IsTickGraph (plain_body body) graph.nodes graph.edges

-- each body has a tick graph
abbrev pub BodiesHaveGraphs : Type 0
BodiesHaveGraphs = (body : List Stmt) → HasGraph body

-- numbers for nodes that rise along every edge
pub record HasRanks (edges : List Edge) : Type 0 where
  pub ranks : List ℕ
  pub rises : Ranks edges ranks

-- without closed walks along the edges there are numbers that rise along each edge
abbrev pub UnwalkedHaveRanks : Type 0
UnwalkedHaveRanks = (edges : List Edge) → ((walk : List Edge) → ¬ ClosedWalk edges walk) → HasRanks edges
