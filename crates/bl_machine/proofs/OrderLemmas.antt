-- Nodes that are sorted by their ranks are in an order of their graph.
use Rattle.std.proofs.Common.{◌≡◌, ℕ, suc, true, false, ◌<◌, ◌≤◌, List, [], ◌∷◌, ◌⊎◌, ⊎_elim, inl, inr, Some, map, length, get_or, refl, ap, sym, subst, ◌∙◌}
use Rattle.std.proofs.Common.{arith}
use Rattle.std.specs.Prelude.{All, Contains, IsPermutation, slice_get, slice_index}
use Rattle.std.specs.List.Sorted.{IsNonDecreasingBy}
use Rattle.std.proofs.lemmas.Bool.{cases_lt}
use Rattle.std.proofs.lemmas.List.Elements.{All-contains, All-cons, All-nil}
use Rattle.std.proofs.lemmas.List.{length-map}
use Rattle.std.proofs.lemmas.Option.{get_or_from_slice_get, slice_get_within}
use Rattle.bl_tree.specs.declared.graph.Edge.{Edge as GraphEdge}
use Rattle.bl_tree.specs.declared.graph.Node.{Node as GraphNode}
use Rattle.bl_tree.specs.Reduce.{joined}
use Rattle.bl_graph_nodes.specs.Nodes.{nodes_in}
use Rattle.bl_graph_nodes.specs.Plain.{Block}
use Rattle.bl_graph.specs.Graph.{EdgeBetween, IsTickGraph, edge_between, graph_node}
use Rattle.bl_cause.specs.Ranks.{Ranks}
use Rattle.bl_machine.specs.Blocks.{EdgeLeads, Ordered, up_to}

-- what has the lesser number in a list that ascends by it stands before the other
rises_by : (rank : ℕ → ℕ) (order : List ℕ) → IsNonDecreasingBy rank order → (p q i j : ℕ) → slice_get order p ≡ Some i →
    slice_get order q ≡ Some j → rank i < rank j → p < q
rises_by rank order ascends p q i j first second less =
    ⊎_elim
    (λ (before : p < q). before)
    (λ (behind : q ≤ p).
    let falls = ascends q p 0 behind (slice_get_within order p i first) in
    let e : get_or order q 0 ≡ j = get_or_from_slice_get order q j 0 second in
    let f : get_or order p 0 ≡ i = get_or_from_slice_get order p i 0 first in
    let a : rank (get_or order q 0) ≡ rank j = ap rank e in
    let b : rank (get_or order p 0) ≡ rank i = ap rank f in absurd (omega arith))
    (cases_lt p q)

-- ---- blocks of one node

abbrev pub one_each : List ℕ → List (List ℕ)
one_each order = map (λ node. node ∷ []) order

joined_one : (order : List ℕ) → joined (one_each order) ≡ order
joined_one [] = refl
joined_one (node ∷ rest) = ap (λ others. node ∷ others) (joined_one rest)

each_one : (order : List ℕ) → All (λ block. length block ≡ 1) (one_each order)
each_one [] = All-nil _
each_one (node ∷ rest) = All-cons (λ block. length block ≡ 1) (node ∷ []) (one_each rest) refl (each_one rest)

pub single_blocks : (order : List ℕ) (block : List ℕ) → Contains (one_each order) block → length block ≡ 1
single_blocks order block there = All-contains (λ block. length block ≡ 1) (one_each order) block (each_one order) there

-- ---- the order of a graph

-- an edge leads to a node with a greater rank
leads_up : (body : Block) (nodes : List GraphNode) (edges : List GraphEdge) (ranks : List ℕ) → IsTickGraph body nodes edges → Ranks edges ranks →
    (i j : ℕ) → EdgeBetween (nodes_in body) (EdgeLeads body) i j → slice_index ranks i < slice_index ranks j
leads_up body nodes edges ranks graph up i j between = by_edge between.edge
  where
    by_edge : EdgeLeads body between.first between.second → slice_index ranks i < slice_index ranks j
    by_edge (inl edge) =
        up (edge_between i j false) ((graph.control i j).1
        (record { first = between.first; second = between.second; is_first = between.is_first; is_second = between.is_second; edge = edge }))
    by_edge (inr edge) =
        up (edge_between i j true) ((graph.by_data i j).1
        (record { first = between.first; second = between.second; is_first = between.is_first; is_second = between.is_second; edge = edge }))

pub ordered_by_rank : (body : Block) (nodes : List GraphNode) (edges : List GraphEdge) (ranks order : List ℕ) → IsTickGraph body nodes edges →
    Ranks edges ranks → IsPermutation (up_to (length nodes)) order → IsNonDecreasingBy (slice_index ranks) order → Ordered body (one_each order)
ordered_by_rank body nodes edges ranks order graph up all ascends =
    let flat = joined_one order in
    let many : length nodes ≡ length (nodes_in body) = ap length graph.in_order ∙ length-map (nodes_in body) graph_node in record {
      all = subst (λ n. IsPermutation (up_to n) (joined (one_each order))) many (subst (IsPermutation (up_to (length nodes))) (sym flat) all);
      rises = λ p q i j first second between.
          rises_by (slice_index ranks) order ascends p q i j (ap (λ xs. slice_get xs p) (sym flat) ∙ first)
          (ap (λ xs. slice_get xs q) (sym flat) ∙ second)
          (leads_up body nodes edges ranks graph up i j between);
      filled = λ block there. (let e = single_blocks order block there in omega arith);
      straight = λ block k i j there first second.
          (let e = single_blocks order block there in let lt = slice_get_within block (suc k) j second in absurd (omega arith));
    }
