-- The tick graphs of bodies whose places are mapped.
use Rattle.std.specs.Prelude.{◌≡◌, List, map, ◌↔◌}
use Rattle.bl_tree.specs.declared.graph.Edge.{Edge}
use Rattle.bl_tree.specs.declared.graph.Node.{Node}
use Rattle.bl_tree.specs.declared.place.Place.{Place}
use Rattle.bl_tree.specs.declared.tree.Stmt.{Stmt}
use Rattle.bl_tree_laws_places.specs.Laws.{BringsBack}
use Rattle.bl_tree_laws_places.specs.Placed.{placed_stmt}
use Rattle.bl_graph.specs.Graph.{IsTickGraph}
use Rattle.bl_graph_nodes.specs.Plain.{plain_body}
use Rattle.bl_graph_laws_places.specs.Placed.{placed_block, placed_nodes}

-- nodes and edges are those of a tick graph of the body, the nodes at mapped places
pub record IsMovedGraph (f : Place → Place) (body : List Stmt) (nodes : List Node) (edges : List Edge) : Type 0 where
  pub sources : List Node
  pub graph : IsTickGraph (plain_body body) sources edges
  pub moved : nodes ≡ placed_nodes f sources

-- mapping the places of a body maps those of its plain statements
abbrev pub PlainBodiesMove : Type 0
PlainBodiesMove = (f : Place → Place) (body : List Stmt) → plain_body (map (placed_stmt f) body) ≡ placed_block f (plain_body body)

-- the tick graphs of a body with mapped places are those of the body with mapped places, where another map brings the places back
abbrev pub TickGraphsMove : Type 0
TickGraphsMove = (f g : Place → Place) → BringsBack g f → (body : List Stmt) (nodes : List Node) (edges : List Edge) →
    IsTickGraph (plain_body (map (placed_stmt f) body)) nodes edges ↔ IsMovedGraph f body nodes edges
