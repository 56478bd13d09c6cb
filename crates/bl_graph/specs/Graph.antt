-- What a tick graph shows of a unit's body: its nodes by their places and kinds, and its edges by the positions of nodes.
use Rattle.std.specs.Prelude.{◌≡◌, ℕ, Bool, true, false, List, map, slice_get, Contains, Some, ◌↔◌}
use Rattle.bl_tree.specs.declared.graph.Edge.{Edge as GraphEdge}
use Rattle.bl_tree.specs.declared.graph.Node.{Node as GraphNode}
use Rattle.bl_graph_nodes.specs.Nodes.{Node, kind_of_node, nodes_in, place_of_node}
use Rattle.bl_graph_nodes.specs.Plain.{Block}
use Rattle.bl_graph.specs.DataEdges.{DataEdge}
use Rattle.bl_graph.specs.Edges.{EdgeAll}

-- a node as the graph shows it
abbrev pub graph_node : Node → GraphNode
graph_node n = record { place = place_of_node n; kind = kind_of_node n }

-- an edge as the graph shows it
abbrev pub edge_between : ℕ → ℕ → Bool → GraphEdge
edge_between i j by_data = record { from = i; to = j; by_data = by_data }

-- an edge leads from the node with number i to that with number j
pub record EdgeBetween (nodes : List Node) (E : Node → Node → Type 0) (i j : ℕ) : Type 0 where
  pub first : Node
  pub second : Node
  pub is_first : slice_get nodes i ≡ Some first
  pub is_second : slice_get nodes j ≡ Some second
  pub edge : E first second

-- the nodes and edges of the tick graph of a body: its nodes in order, its control edges and its data edges
pub record IsTickGraph (body : Block) (nodes : List GraphNode) (edges : List GraphEdge) : Type 0 where
  pub in_order : nodes ≡ map graph_node (nodes_in body)
  pub control : (i j : ℕ) → Contains edges (edge_between i j false) ↔ EdgeBetween (nodes_in body) (EdgeAll body) i j
  pub by_data : (i j : ℕ) → Contains edges (edge_between i j true) ↔ EdgeBetween (nodes_in body) (DataEdge body) i j
