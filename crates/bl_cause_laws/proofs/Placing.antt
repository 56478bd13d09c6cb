-- The tick graph of a body: its listed edges, by the positions of their nodes.
use Rattle.std.proofs.Common.{◌≡◌, inl, inr, ℕ, ◌<◌, Bool, true, false, ◌&&◌, List, [], ◌∷◌, ◌++◌, length, refl, sym, ap, ◌∙◌, subst, arith}
use Rattle.std.specs.Prelude.{◌↔◌, Contains, Some, map, nat_lt, slice_get}
use Rattle.std.proofs.lemmas.Bool.{lt-ltb}
use Rattle.std.proofs.lemmas.List.{length-map}
use Rattle.std.proofs.lemmas.Option.{slice_get_within}
use Rattle.std.proofs.lemmas.List.Elements.{Contains-append_cases, Contains-append_left, Contains-append_right}
use Rattle.std.proofs.lemmas.Bool.{and_from}
use Rattle.bl_tree.proofs.Basics.{contains_first, contains_further, contains_none, first_or_further, index_of}
use Rattle.bl_tree.specs.declared.graph.Edge.{Edge as GraphEdge}
use Rattle.bl_tree.specs.declared.graph.Node.{Node as GraphNode}
use Rattle.bl_tree.specs.Graph.{JoinsNodes}
use Rattle.bl_tree.specs.declared.tree.Stmt.{Stmt}
use Rattle.bl_graph_nodes.specs.Laws.{EachOnce, NodesDiffer}
use Rattle.bl_graph_nodes.specs.Nodes.{Node, nodes_in}
use Rattle.bl_graph_nodes.specs.Plain.{Block, plain_body}
use Rattle.bl_graph.specs.DataEdges.{DataEdge}
use Rattle.bl_graph.specs.Edges.{EdgeAll}
use Rattle.bl_graph.specs.Graph.{EdgeBetween, IsTickGraph, edge_between, graph_node}
use Rattle.bl_graph.specs.Laws.{EdgesAreListed, FlowsAreListed, StaysWithin}
use Rattle.bl_graph.specs.Listed.{Pair, edges_in, flows_in, pair}
use Rattle.bl_cause_laws.specs.Orders.{BodiesHaveGraphs}
use Rattle.bl_graph.proofs.Ending.{lists_all}

-- an edge of the kind between nodes of the list
record Placed (nodes : List Node) (E : Node → Node → Type 0) (p : Pair) : Type 0 where
  from : ℕ
  to : ℕ
  is_from : slice_get nodes from ≡ Some p.from
  is_to : slice_get nodes to ≡ Some p.to
  edge : E p.from p.to

module _ (nodes : List Node) (E : Node → Node → Type 0) (by_data : Bool) where
  abbrev Each : List Pair → Type 0
  Each pairs = (p : Pair) → Contains pairs p → Placed nodes E p

  -- these edges by positions
  abbrev placed : (pairs : List Pair) → Each pairs → List GraphEdge
  placed [] each = []
  placed (p ∷ rest) each =
      edge_between (each p (contains_first p rest)).from (each p (contains_first p rest)).to by_data
      ∷ placed rest (λ q there. each q (contains_further p rest q there))

  between_placed : (p : Pair) (one : Placed nodes E p) (e : GraphEdge) → edge_between one.from one.to by_data ≡ e →
      EdgeBetween nodes E e.from e.to
  between_placed p one e is = record {
    first = p.from;
    second = p.to;
    is_first = subst (λ e. slice_get nodes e.from ≡ Some p.from) is one.is_from;
    is_second = subst (λ e. slice_get nodes e.to ≡ Some p.to) is one.is_to;
    edge = one.edge;
  }

  of_kind : (pairs : List Pair) (each : Each pairs) (e : GraphEdge) → Contains (placed pairs each) e → e.by_data ≡ by_data
  of_kind [] each e there = absurd (contains_none e there)
  of_kind (p ∷ rest) each e there =
      elim (first_or_further _ _ e there) [
        | inl is ↦ sym (ap (λ e. e.by_data) is)
        | inr later ↦ of_kind rest (λ q there. each q (contains_further p rest q there)) e later
      ]

  sound : (pairs : List Pair) (each : Each pairs) (e : GraphEdge) → Contains (placed pairs each) e → EdgeBetween nodes E e.from e.to
  sound [] each e there = absurd (contains_none e there)
  sound (p ∷ rest) each e there =
      elim (first_or_further _ _ e there) [
        | inl is ↦ between_placed p (each p (contains_first p rest)) e is
        | inr later ↦ sound rest (λ q there. each q (contains_further p rest q there)) e later
      ]

  module _ (once : EachOnce nodes) where
    at_place : (p q : Pair) (one : Placed nodes E p) (i j : ℕ) → p ≡ q → slice_get nodes i ≡ Some q.from → slice_get nodes j ≡ Some q.to →
        edge_between one.from one.to by_data ≡ edge_between i j by_data
    at_place p q one i j same from to =
        ap (λ k. edge_between k one.to by_data) (once one.from i q.from (one.is_from ∙ ap (λ p. Some p.from) same) from)
        ∙ ap (λ k. edge_between i k by_data) (once one.to j q.to (one.is_to ∙ ap (λ p. Some p.to) same) to)

    complete : (pairs : List Pair) (each : Each pairs) (q : Pair) (i j : ℕ) → Contains pairs q → slice_get nodes i ≡ Some q.from →
        slice_get nodes j ≡ Some q.to → Contains (placed pairs each) (edge_between i j by_data)
    complete [] each q i j there from to = absurd (contains_none q there)
    complete (p ∷ rest) each q i j there from to =
        let later_each : Each rest = λ q there. each q (contains_further p rest q there) in
        let head : GraphEdge = edge_between (each p (contains_first p rest)).from (each p (contains_first p rest)).to by_data in
        elim (first_or_further p rest q there) [
          | inl is ↦ subst (Contains (head ∷ placed rest later_each)) (at_place p q (each p (contains_first p rest)) i j is from to)
              (contains_first head (placed rest later_each))
          | inr later ↦ contains_further head (placed rest later_each) (edge_between i j by_data) (complete rest later_each q i j later from to)
        ]

-- ---- bodies

module _ (differ : NodesDiffer) (within : (body : Block) → StaysWithin body) (edges : EdgesAreListed) (flows : FlowsAreListed) (body : List Stmt) where
  abbrev B : Block
  B = plain_body body

  abbrev Nodes : List Node
  Nodes = nodes_in B

  once : EachOnce Nodes
  once = differ.blocks body []

  place_in : (E : Node → Node → Type 0) (p : Pair) → Contains Nodes p.from → Contains Nodes p.to → E p.from p.to → Placed Nodes E p
  place_in E p one other edge =
      let from = index_of Nodes p.from one in
      let to = index_of Nodes p.to other in
      record { from = from.0; to = to.0; is_from = from.1; is_to = to.1; edge = edge }

  each_edge : (p : Pair) → Contains (edges_in B) p → Placed Nodes (EdgeAll B) p
  each_edge p there =
      let edge = (edges body [] p.from p.to).0 there in
      let inside = (within B).edges p.from p.to edge in place_in (EdgeAll B) p inside.0 inside.1 edge

  each_flow : (p : Pair) → Contains (flows_in B) p → Placed Nodes (DataEdge B) p
  each_flow p there =
      let edge = (flows body [] p.from p.to).0 there in
      let inside = (within B).beside p.from p.to edge.0 in place_in (DataEdge B) p inside.0 inside.1 edge

  abbrev control_edges : List GraphEdge
  control_edges = placed Nodes (EdgeAll B) false (edges_in B) each_edge

  abbrev data_edges : List GraphEdge
  data_edges = placed Nodes (DataEdge B) true (flows_in B) each_flow

  is_control : (i j : ℕ) → Contains (control_edges ++ data_edges) (edge_between i j false) ↔ EdgeBetween Nodes (EdgeAll B) i j
  is_control i j = (forth, back)
    where
      forth : Contains (control_edges ++ data_edges) (edge_between i j false) → EdgeBetween Nodes (EdgeAll B) i j
      forth there =
          elim (Contains-append_cases control_edges data_edges (edge_between i j false) there) [
            | inl one ↦ sound Nodes (EdgeAll B) false (edges_in B) each_edge (edge_between i j false) one
            | inr other ↦ absurd (cc (of_kind Nodes (DataEdge B) true (flows_in B) each_flow (edge_between i j false) other))
          ]

      back : EdgeBetween Nodes (EdgeAll B) i j → Contains (control_edges ++ data_edges) (edge_between i j false)
      back b =
          Contains-append_left control_edges data_edges (edge_between i j false)
          (complete Nodes (EdgeAll B) false once (edges_in B) each_edge (pair b.first b.second) i j
          ((edges body [] b.first b.second).1 b.edge) b.is_first b.is_second)

  is_data : (i j : ℕ) → Contains (control_edges ++ data_edges) (edge_between i j true) ↔ EdgeBetween Nodes (DataEdge B) i j
  is_data i j = (forth, back)
    where
      forth : Contains (control_edges ++ data_edges) (edge_between i j true) → EdgeBetween Nodes (DataEdge B) i j
      forth there =
          elim (Contains-append_cases control_edges data_edges (edge_between i j true) there) [
            | inl one ↦ absurd (cc (of_kind Nodes (EdgeAll B) false (edges_in B) each_edge (edge_between i j true) one))
            | inr other ↦ sound Nodes (DataEdge B) true (flows_in B) each_flow (edge_between i j true) other
          ]

      back : EdgeBetween Nodes (DataEdge B) i j → Contains (control_edges ++ data_edges) (edge_between i j true)
      back b =
          Contains-append_right control_edges data_edges (edge_between i j true)
          (complete Nodes (DataEdge B) true once (flows_in B) each_flow (pair b.first b.second) i j
          ((flows body [] b.first b.second).1 b.edge) b.is_first b.is_second)

-- ---- ends of edges

-- both ends of each edge of a tick graph are positions of nodes
module _ (body : Block) (nodes : List GraphNode) (edges : List GraphEdge) (is : IsTickGraph body nodes edges) where
  inside : (E : Node → Node → Type 0) (i j : ℕ) → EdgeBetween (nodes_in body) E i j → (i < length nodes) × (j < length nodes)
  inside E i j b =
      let many : length nodes ≡ length (nodes_in body) = ap length is.in_order ∙ length-map (nodes_in body) graph_node in
      let first : i < length (nodes_in body) = slice_get_within (nodes_in body) i b.first b.is_first in
      let second : j < length (nodes_in body) = slice_get_within (nodes_in body) j b.second b.is_second in (omega arith, omega arith)

  ends : (i j : ℕ) (by_data : Bool) → Contains edges (edge_between i j by_data) → (i < length nodes) × (j < length nodes)
  ends i j false there = inside (EdgeAll body) i j ((is.control i j).0 there)
  ends i j true there = inside (DataEdge body) i j ((is.by_data i j).0 there)

  joins : JoinsNodes nodes edges
  joins = record {
    ends = lists_all (λ e. nat_lt e.from (length nodes) && nat_lt e.to (length nodes)) edges (λ e there.
        let at = ends e.from e.to e.by_data there in
        and_from (nat_lt e.from (length nodes)) (nat_lt e.to (length nodes)) (lt-ltb e.from (length nodes) at.0) (lt-ltb e.to (length nodes) at.1));
  }

pub bodies_have_graphs : NodesDiffer → ((body : Block) → StaysWithin body) → EdgesAreListed → FlowsAreListed → BodiesHaveGraphs
bodies_have_graphs differ within edges flows body =
    let all : List GraphEdge = control_edges differ within edges flows body ++ data_edges differ within edges flows body in
    let is : IsTickGraph (plain_body body) (map graph_node (nodes_in (plain_body body))) all = record {
      in_order = refl;
      control = is_control differ within edges flows body;
      by_data = is_data differ within edges flows body;
    } in
    record {
      graph = record {
        nodes = map graph_node (nodes_in (plain_body body));
        edges = all;
        joins_nodes = joins (plain_body body) (map graph_node (nodes_in (plain_body body))) all is;
      };
      is_graph = is;
    }
