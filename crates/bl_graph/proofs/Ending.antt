-- The tick graph of a body by numbers.
use Rattle.std.proofs.Common.{◌≡◌, ℕ, zero, suc, ◌<◌, Bool, true, false, ◌&&◌, ⊎_elim, List, [], ◌∷◌, ◌++◌, map, length, get_or, Some, Result, Ok}
use Rattle.std.proofs.Common.{Err, refl, ap, sym, ◌∙◌, subst, zero-add}
use Rattle.std.specs.Prelude.{Contains, IfOk, IsTrue, slice_get, ◌↔◌}
use Rattle.std.specs.List.{list_all}
use Rattle.std.proofs.lemmas.List.{length-map}
use Rattle.std.proofs.lemmas.List.Elements.{Contains-append_left, Contains-append_right, Contains-append_cases}
use Rattle.bl_tree.proofs.Basics.{contains_first, contains_further, from_false, from_true_false, less_test, within_at}
use Rattle.bl_tree.specs.declared.graph.Edge.{Edge as GraphEdge}
use Rattle.bl_graph.specs.declared.tick_graph.Graph.{Graph}
use Rattle.bl_tree.specs.declared.graph.Node.{Node as GraphNode}
use Rattle.bl_tree.specs.declared.tree.Stmt.{Stmt}
use Rattle.bl_tree.specs.declared.tree.Unit.{Unit as UnitDef}
use Rattle.bl_tree.specs.Graph.{JoinsNodes}
use Rattle.bl_graph_nodes.specs.Laws.{EachOnce, NodesDiffer}
use Rattle.bl_graph_nodes.specs.Nodes.{Node, nodes_in}
use Rattle.bl_graph_nodes.specs.Plain.{Block, plain_block, plain_body}
use Rattle.bl_graph.specs.declared.flow.Flow.{Flow}
use Rattle.bl_graph.specs.declared.part.Links.{Links}
use Rattle.bl_graph.specs.declared.part.Part.{Part as Made}
use Rattle.bl_graph.specs.DataEdges.{DataEdge}
use Rattle.bl_graph.specs.Edges.{EdgeAll}
use Rattle.bl_graph.specs.Graph.{EdgeBetween, IsTickGraph, edge_between, graph_node}
use Rattle.bl_graph.specs.Listed.{Pair, edges_in, flows_in, pair}
use Rattle.bl_graph.specs.Marks.{Marked, part_in}
use Rattle.bl_graph.specs.inner.Made.{Adds, BlockMade, HasPair, Makes, Names, flow_of, whole_in}
use Rattle.bl_graph.proofs.Branching.{names_list}
use Rattle.bl_graph.proofs.Flowing.{flows_are_listed}
use Rattle.bl_graph.proofs.Listing.{edges_are_listed}
use Rattle.bl_graph.proofs.Marking.{names, names_in}

shown_all : (ms : List Marked) → map (λ (flow : Flow). flow.node) (map flow_of ms) ≡ map graph_node (names ms)
shown_all [] = refl
shown_all (m ∷ ms) = ap (λ ns. graph_node m.node ∷ ns) (shown_all ms)

-- the numbers of a list name its elements
itself : (nodes : List Node) → Names (slice_get nodes) 0 nodes
itself nodes = names_list nodes 0 (slice_get nodes) (λ i. ap (slice_get nodes) (zero-add i))

module _ (nodes : List Node) (E : Node → Node → Type 0) (kind : Bool) (pairs : List Pair) (es : List GraphEdge) where
  -- edges that were added are those between nodes
  pub adds_between : EachOnce nodes → ((n m : Node) → Contains pairs (pair n m) ↔ E n m) → Adds kind (slice_get nodes) pairs [] es → (i j : ℕ)
      → Contains es (edge_between i j kind) ↔ EdgeBetween nodes E i j
  adds_between once listed adds i j = (
    λ there.
        let has : HasPair kind (slice_get nodes) pairs (edge_between i j kind) = adds.there (edge_between i j kind) (subst (λ es. Contains es
        (edge_between i j kind)) adds.grows there) in
        record {
          first = has.pair.from;
          second = has.pair.to;
          is_first = has.leads.first;
          is_second = has.leads.second;
          edge = (listed has.pair.from has.pair.to).0 has.is_there;
        },
    λ between.
        let has = adds.back (pair between.first between.second) ((listed between.first between.second).1 between.edge) in
        let from : has.edge.from ≡ i = once has.edge.from i between.first has.leads.first between.is_first in
        let to : has.edge.to ≡ j = once has.edge.to j between.second has.leads.second between.is_second in
        let is : has.edge ≡ edge_between i j kind = λ k. record { from = from k; to = to k; by_data = has.leads.of_kind k } in
        subst (Contains es) is (subst (λ es. Contains es has.edge) (sym adds.grows) has.is_there),
  )

  pub within : Adds kind (slice_get nodes) pairs [] es → (edge : GraphEdge) → Contains es edge → (edge.from < length nodes) × (edge.to < length nodes)
  within adds edge there =
      let has = adds.there edge (subst (λ es. Contains es edge) adds.grows there) in
      (within_at nodes edge.from has.pair.from has.leads.first, within_at nodes edge.to has.pair.to has.leads.second)

  pub of_kind : Adds kind (slice_get nodes) pairs [] es → (edge : GraphEdge) → Contains es edge → edge.by_data ≡ kind
  of_kind adds edge there = (adds.there edge (subst (λ es. Contains es edge) adds.grows there)).leads.of_kind

-- the list has an edge of a kind where the part of its kind has it
module _ (control by_data : List GraphEdge) where
  control_only : ((edge : GraphEdge) → Contains by_data edge → edge.by_data ≡ true) → (P : Type 0) (i j : ℕ)
      → Contains control (edge_between i j false) ↔ P → Contains (control ++ by_data) (edge_between i j false) ↔ P
  control_only all P i j same = (
    λ there. ⊎_elim (λ here. same.0 here) (λ other. from_false (all (edge_between i j false) other)) (Contains-append_cases control by_data _ there),
    λ holds. Contains-append_left control by_data _ (same.1 holds),
  )

  data_only : ((edge : GraphEdge) → Contains control edge → edge.by_data ≡ false) → (P : Type 0) (i j : ℕ)
      → Contains by_data (edge_between i j true) ↔ P → Contains (control ++ by_data) (edge_between i j true) ↔ P
  data_only all P i j same = (
    λ there. ⊎_elim (λ other. from_true_false (all (edge_between i j true) other)) (λ here. same.0 here) (Contains-append_cases control by_data _ there),
    λ holds. Contains-append_right control by_data _ (same.1 holds),
  )

pub lists_all : (test : GraphEdge → Bool) (es : List GraphEdge) → ((edge : GraphEdge) → Contains es edge → test edge ≡ true) → IsTrue (list_all test es)
lists_all test [] all = refl
lists_all test (e ∷ es) all =
    subst (λ t. IsTrue (t && list_all test es)) (sym (all e (contains_first e es))) (lists_all test es (λ edge there. all edge (contains_further e es edge there)))

pub is_tick_graph : NodesDiffer → (body : List Stmt) (made : Made) (links : Links) → BlockMade body 0 made (record { control = []; by_data = [] }) links
    → (nodes : List GraphNode) (edges : List GraphEdge) → nodes ≡ map (λ (flow : Flow). flow.node) made.flows
    → edges ≡ links.control ++ links.by_data
    → IsTickGraph (plain_body body) nodes edges
is_tick_graph differ body made links block nodes edges nodes_are edges_are =
    let b : Block = plain_block body [] in
    let all : List Node = nodes_in b in
    let makes : Makes (slice_get all) (whole_in b) made (record { control = []; by_data = [] }) links = block [] (slice_get all) (itself all) in
    let once : EachOnce all = differ.blocks body [] in
    record {
      in_order = nodes_are ∙ ap (map (λ (flow : Flow). flow.node)) makes.flows ∙ shown_all (part_in b).nodes ∙ ap (map graph_node) (names_in b);
      control = λ i j.
          subst (λ es. Contains es (edge_between i j false) ↔ EdgeBetween all (EdgeAll b) i j) (sym edges_are)
          (control_only links.control links.by_data (of_kind all (DataEdge b) true (flows_in b) links.by_data makes.by_data) (EdgeBetween all (EdgeAll b) i j) i j
          (adds_between all (EdgeAll b) false (edges_in b) links.control once (λ n m. edges_are_listed differ body [] n m) makes.control i j));
      by_data = λ i j.
          subst (λ es. Contains es (edge_between i j true) ↔ EdgeBetween all (DataEdge b) i j) (sym edges_are)
          (data_only links.control links.by_data (of_kind all (EdgeAll b) false (edges_in b) links.control makes.control) (EdgeBetween all (DataEdge b) i j) i j
          (adds_between all (DataEdge b) true (flows_in b) links.by_data once (λ n m. flows_are_listed differ body [] n m) makes.by_data i j));
    }

pub joins_nodes : (body : List Stmt) (made : Made) (links : Links) → BlockMade body 0 made (record { control = []; by_data = [] }) links
    → (nodes : List GraphNode) (edges : List GraphEdge) → nodes ≡ map (λ (flow : Flow). flow.node) made.flows
    → edges ≡ links.control ++ links.by_data
    → JoinsNodes nodes edges
joins_nodes body made links block nodes edges nodes_are edges_are =
    let b : Block = plain_block body [] in
    let all : List Node = nodes_in b in
    let makes : Makes (slice_get all) (whole_in b) made (record { control = []; by_data = [] }) links = block [] (slice_get all) (itself all) in
    let size : length all ≡ length nodes =
    sym (length-map all graph_node) ∙ ap length (sym (nodes_are ∙ ap (map (λ (flow : Flow). flow.node)) makes.flows
    ∙ shown_all (part_in b).nodes ∙ ap (map graph_node) (names_in b))) in
    record {
      ends = lists_all _ edges (λ edge there.
          let both : (edge.from < length all) × (edge.to < length all) =
          ⊎_elim (within all (EdgeAll b) false (edges_in b) links.control makes.control edge)
          (within all (DataEdge b) true (flows_in b) links.by_data makes.by_data edge)
          (Contains-append_cases links.control links.by_data edge (subst (λ es. Contains es edge) edges_are there)) in
          let first : edge.from < length nodes = subst (λ n. edge.from < n) size both.0 in
          let second : edge.to < length nodes = subst (λ n. edge.to < n) size both.1 in
          λ i. less_test edge.from (length nodes) first i && less_test edge.to (length nodes) second i);
    }

-- the same of what the code makes
pub graph_joins : (body : List Stmt) (made : Made) (one two : List GraphEdge) (links : Links) → one ≡ [] → two ≡ []
    → BlockMade body 0 made (record { control = one; by_data = two }) links → (nodes : List GraphNode) (edges : List GraphEdge) (flows : List Flow)
    → nodes ≡ map (λ (flow : Flow). flow.node) flows → flows ≡ made.flows → edges ≡ links.control ++ links.by_data → JoinsNodes nodes edges
graph_joins body made one two links first second block nodes edges flows nodes_are flows_are edges_are =
    joins_nodes body made links (subst (λ start. BlockMade body 0 made start links) (λ i. record { control = first i; by_data = second i }) block) nodes edges
    (nodes_are ∙ ap (map (λ (flow : Flow). flow.node)) flows_are) edges_are

pub graph_shows : NodesDiffer → (body : List Stmt) (made : Made) (one two : List GraphEdge) (links : Links) → one ≡ [] → two ≡ []
    → BlockMade body 0 made (record { control = one; by_data = two }) links → (nodes : List GraphNode) (edges : List GraphEdge) (flows : List Flow)
    → nodes ≡ map (λ (flow : Flow). flow.node) flows → flows ≡ made.flows → edges ≡ links.control ++ links.by_data → IsTickGraph (plain_body body) nodes edges
graph_shows differ body made one two links first second block nodes edges flows nodes_are flows_are edges_are =
    is_tick_graph differ body made links
    (subst (λ start. BlockMade body 0 made start links) (λ i. record { control = first i; by_data = second i }) block) nodes edges
    (nodes_are ∙ ap (map (λ (flow : Flow). flow.node)) flows_are) edges_are

-- the unit at a position
pub unit_at : (units : List UnitDef) (k : ℕ) (of : UnitDef) → slice_get units k ≡ Some of → (d : UnitDef) → get_or units k d ≡ of
unit_at [] k of is d = cc
unit_at (u ∷ units) zero of is d = cc
unit_at (u ∷ units) (suc k) of is d = unit_at units k of is d

-- the graph of a body that is the unit's is one of the unit
pub of_unit : {E : Type 0} (units : List UnitDef) (k : ℕ) (body : List Stmt) (made : Result Graph E)
    → ((of : UnitDef) → slice_get units k ≡ Some of → body ≡ of.body)
    → IfOk made (λ graph. IsTickGraph (plain_body body) graph.nodes graph.edges)
    → IfOk made (λ graph. (of : UnitDef) → slice_get units k ≡ Some of → IsTickGraph (plain_body of.body) graph.nodes graph.edges)
of_unit units k body (Ok graph) same is = λ of there. subst (λ body. IsTickGraph (plain_body body) graph.nodes graph.edges) (same of there) is
of_unit units k body (Err e) same is = tt
