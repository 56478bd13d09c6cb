-- The tick graphs of a body whose places are mapped.
use Rattle.std.proofs.Common.{◌≡◌, ℕ, List, map, refl, ap, sym, subst, ◌∙◌}
use Rattle.std.specs.Prelude.{◌↔◌, slice_get}
use Rattle.bl_tree.proofs.Basics.{get_mapped}
use Rattle.bl_tree.specs.declared.graph.Edge.{Edge}
use Rattle.bl_tree.specs.declared.graph.Node.{Node as GraphNode}
use Rattle.bl_tree.specs.declared.place.Place.{Place}
use Rattle.bl_tree_laws_places.specs.Laws.{BringsBack}
use Rattle.bl_tree_laws_places.proofs.Lists.{map-alike, map-twice}
use Rattle.bl_graph.specs.DataEdges.{DataEdge}
use Rattle.bl_graph.specs.Edges.{EdgeAll}
use Rattle.bl_graph.specs.Graph.{EdgeBetween, IsTickGraph, graph_node}
use Rattle.bl_graph_nodes.specs.Nodes.{Node, nodes_in}
use Rattle.bl_graph_nodes.specs.Plain.{Block, plain_body}
use Rattle.bl_graph_laws_places.specs.Laws.{TickGraphsMove}
use Rattle.bl_graph_laws_places.specs.Placed.{placed_block, placed_graph_node, placed_node, placed_nodes}
use Rattle.bl_graph_laws_places.proofs.Edges.{block_edge_moves, data_edge_moves}
use Rattle.bl_graph_laws_places.proofs.Nodes.{block_back, block_nodes_move, shown_moves}
use Rattle.bl_graph_laws_places.proofs.Plains.{plain_bodies_move}

-- the nodes of a body as the graph shows them
shown : (f : Place → Place) (body : Block) →
    map graph_node (nodes_in (placed_block f body)) ≡ placed_nodes f (map graph_node (nodes_in body))
shown f body =
    ap (map graph_node) (block_nodes_move f body)
    ∙ map-twice graph_node (placed_node f) (nodes_in body)
    ∙ map-alike (λ n. graph_node (placed_node f n)) (λ n. placed_graph_node f (graph_node n)) (shown_moves f) (nodes_in body)
    ∙ sym (map-twice (placed_graph_node f) graph_node (nodes_in body))

-- an edge that is mapped along with the body stands between the same positions
module _ (Edges : Block → Node → Node → Type 0)
    (moves : (f : Place → Place) (body : Block) (n m : Node) → Edges body n m → Edges (placed_block f body) (placed_node f n) (placed_node f m)) where
  between_to : (f : Place → Place) (body : Block) (i j : ℕ) → EdgeBetween (nodes_in body) (Edges body) i j →
      EdgeBetween (nodes_in (placed_block f body)) (Edges (placed_block f body)) i j
  between_to f body i j h = record {
    first = placed_node f h.first;
    second = placed_node f h.second;
    is_first =
        ap (λ nodes. slice_get nodes i) (block_nodes_move f body) ∙ get_mapped (placed_node f) (nodes_in body) i h.first h.is_first;
    is_second =
        ap (λ nodes. slice_get nodes j) (block_nodes_move f body) ∙ get_mapped (placed_node f) (nodes_in body) j h.second h.is_second;
    edge = moves f body h.first h.second h.edge;
  }

  between_from : (f g : Place → Place) → BringsBack g f → (body : Block) (i j : ℕ) →
      EdgeBetween (nodes_in (placed_block f body)) (Edges (placed_block f body)) i j → EdgeBetween (nodes_in body) (Edges body) i j
  between_from f g back body i j h =
      subst (λ b. EdgeBetween (nodes_in b) (Edges b) i j) (block_back f g back body) (between_to g (placed_block f body) i j h)

module _ (f g : Place → Place) (back : BringsBack g f) (body : Block) where
  graph_from : (nodes : List GraphNode) (edges : List Edge) → IsTickGraph (placed_block f body) nodes edges →
      IsTickGraph body (map graph_node (nodes_in body)) edges
  graph_from nodes edges h = record {
    in_order = refl;
    control = λ i j. (
      λ has. between_from EdgeAll block_edge_moves f g back body i j ((h.control i j).0 has),
      λ edge. (h.control i j).1 (between_to EdgeAll block_edge_moves f body i j edge),
    );
    by_data = λ i j. (
      λ has. between_from DataEdge data_edge_moves f g back body i j ((h.by_data i j).0 has),
      λ edge. (h.by_data i j).1 (between_to DataEdge data_edge_moves f body i j edge),
    );
  }

  graph_to : (sources nodes : List GraphNode) (edges : List Edge) → nodes ≡ placed_nodes f sources → IsTickGraph body sources edges →
      IsTickGraph (placed_block f body) nodes edges
  graph_to sources nodes edges moved h = record {
    in_order = moved ∙ ap (placed_nodes f) h.in_order ∙ sym (shown f body);
    control = λ i j. (
      λ has. between_to EdgeAll block_edge_moves f body i j ((h.control i j).0 has),
      λ edge. (h.control i j).1 (between_from EdgeAll block_edge_moves f g back body i j edge),
    );
    by_data = λ i j. (
      λ has. between_to DataEdge data_edge_moves f body i j ((h.by_data i j).0 has),
      λ edge. (h.by_data i j).1 (between_from DataEdge data_edge_moves f g back body i j edge),
    );
  }

pub tick_graphs_move : TickGraphsMove
tick_graphs_move f g back body nodes edges = (
  λ h.
      let graph : IsTickGraph (placed_block f (plain_body body)) nodes edges =
      subst (λ b. IsTickGraph b nodes edges) (plain_bodies_move f body) h in
      record {
        sources = map graph_node (nodes_in (plain_body body));
        graph = graph_from f g back (plain_body body) nodes edges graph;
        moved = graph.in_order ∙ shown f (plain_body body);
      },
  λ h.
      subst (λ b. IsTickGraph b nodes edges) (sym (plain_bodies_move f body))
      (graph_to f g back (plain_body body) h.sources nodes edges h.moved h.graph),
)
