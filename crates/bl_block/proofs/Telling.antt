-- The test of two nodes tells whether the second could follow the first in one block.
use Rattle.std.proofs.Common.{◌≡◌, ℕ, ◌<◌, Bool, true, false, not, ◌&&◌, ◌⊎◌, inl, inr, List, Some, length, get_or, replicate, refl, ap, sym, subst, ◌∙◌}
use Rattle.std.specs.Prelude.{Contains, nat_eq, option_map, slice_get}
use Rattle.std.proofs.lemmas.Option.{same_Some, slice_get-get_or, slice_get-map, slice_get_within}
use Rattle.std.proofs.lemmas.Bool.{and_from, and_parts, not-true}
use Rattle.bl_tree.proofs.Basics.{number_test, same_number, true_and_false}
use Rattle.bl_tree.specs.declared.graph.Edge.{Edge as GraphEdge}
use Rattle.bl_tree.specs.declared.graph.Node.{Node as GraphNode}
use Rattle.bl_graph_nodes.specs.Laws.{EachOnce}
use Rattle.bl_graph_nodes.specs.Nodes.{ActAt, CheckAt, DepthEndAt, DepthJoinAt, EnterAt, ForkAt, HeadAt, Node, PauseAt, ResumeAt, StartAt, SurfaceEndAt}
use Rattle.bl_graph_nodes.specs.Nodes.{SurfaceJoinAt, TestAt, kind_of_node, nodes_in}
use Rattle.bl_graph_nodes.specs.Plain.{Block}
use Rattle.bl_graph.specs.Edges.{EdgeAll}
use Rattle.bl_graph.specs.Graph.{EdgeBetween, IsTickGraph, edge_between, graph_node}
use Rattle.bl_graph.specs.Laws.{StaysWithin}
use Rattle.bl_machine.specs.Blocks.{CouldFollow, goes_straight as straight_node, is_join as join_node}
use Rattle.bl_block.specs.declared.ways.Way.TheVariants as way
use Rattle.bl_block.specs.inner.Ways.{follows, goes_straight, is_join, join_kind, leads_on, noted_back, noted_on, one_at, some_kind, straight_kind, ways_of}
use Rattle.bl_block.proofs.Noting.{Arrow, arrow_of, found, one_told, tells_one, way_tells}
use Rattle.bl_block.proofs.Beginning.{Begins}
use Rattle.bl_block.proofs.Resuming.{straight_rests}

-- ---- kinds

straight_shown : (n : Node) → straight_kind (kind_of_node n) ≡ straight_node n
straight_shown (ActAt l s) = refl
straight_shown (TestAt l at e) = refl
straight_shown (PauseAt l at) = refl
straight_shown (EnterAt l at arguments) = refl
straight_shown (ResumeAt l at arguments) = refl
straight_shown (HeadAt l at) = refl
straight_shown (StartAt l at) = refl
straight_shown (CheckAt l at e) = refl
straight_shown (SurfaceEndAt l at) = refl
straight_shown (DepthEndAt l at) = refl
straight_shown (ForkAt l at) = refl
straight_shown (SurfaceJoinAt l at) = refl
straight_shown (DepthJoinAt l at) = refl

join_shown : (n : Node) → join_kind (kind_of_node n) ≡ join_node n
join_shown (ActAt l s) = refl
join_shown (TestAt l at e) = refl
join_shown (PauseAt l at) = refl
join_shown (EnterAt l at arguments) = refl
join_shown (ResumeAt l at arguments) = refl
join_shown (HeadAt l at) = refl
join_shown (StartAt l at) = refl
join_shown (CheckAt l at e) = refl
join_shown (SurfaceEndAt l at) = refl
join_shown (DepthEndAt l at) = refl
join_shown (ForkAt l at) = refl
join_shown (SurfaceJoinAt l at) = refl
join_shown (DepthJoinAt l at) = refl

module _ (body : Block) (nodes : List GraphNode) (edges : List GraphEdge) (graph : IsTickGraph body nodes edges)
    (once : EachOnce (nodes_in body)) (begins : Begins body) (within : (block : Block) → StaysWithin block) where
  shown_at : (i : ℕ) (n : Node) → slice_get (nodes_in body) i ≡ Some n → slice_get nodes i ≡ Some (graph_node n)
  shown_at i n is =
      ap (λ xs. slice_get xs i) graph.in_order ∙ slice_get-map graph_node (nodes_in body) i ∙ ap (option_map graph_node) is

  straight_at : (i : ℕ) (n : Node) → slice_get (nodes_in body) i ≡ Some n → goes_straight nodes i ≡ straight_node n
  straight_at i n is = ap (some_kind straight_kind) (shown_at i n is) ∙ straight_shown n

  join_at : (i : ℕ) (n : Node) → slice_get (nodes_in body) i ≡ Some n → is_join nodes i ≡ join_node n
  join_at i n is = ap (some_kind join_kind) (shown_at i n is) ∙ join_shown n

  below : (i : ℕ) (n : Node) → slice_get (nodes_in body) i ≡ Some n → i < length nodes
  below i n is = slice_get_within nodes i (graph_node n) (shown_at i n is)

  -- where a node of the body stands
  record Stands (n : Node) : Type 0 where
    pub place : ℕ
    pub there : slice_get (nodes_in body) place ≡ Some n

  stands : (n : Node) → Contains (nodes_in body) n → Stands n
  stands n there = record {
    place = there.0;
    there = slice_get-get_or (nodes_in body) there.0 n there.1 ∙ ap Some there.2;
  }

  edge_of : (n m : Node) (i j : ℕ) → slice_get (nodes_in body) i ≡ Some n → slice_get (nodes_in body) j ≡ Some m → EdgeAll body n m →
      Contains edges (edge_between i j false)
  edge_of n m i j one two edge =
      (graph.control i j).1 (record { first = n; second = m; is_first = one; is_second = two; edge = edge })

  -- ---- edges as they are noted

  abbrev On : ℕ → ℕ → Type 0
  On = Arrow (leads_on nodes) (λ edge. edge.from) (λ edge. edge.to) edges

  abbrev Back : ℕ → ℕ → Type 0
  Back = Arrow (λ edge. not edge.by_data) (λ edge. edge.to) (λ edge. edge.from) edges

  edge_is : (edge : GraphEdge) (i j : ℕ) → edge.from ≡ i → edge.to ≡ j → edge.by_data ≡ false → edge ≡ edge_between i j false
  edge_is edge i j one two three = λ t. record { from = one t; to = two t; by_data = three t }

  -- an edge that leads on, by the numbers of its nodes
  record Onward (i k : ℕ) : Type 0 where
    pub edge : EdgeBetween (nodes_in body) (EdgeAll body) i k
    pub straight : goes_straight nodes i ≡ true
    pub no_join : is_join nodes k ≡ false

  onward : (i k : ℕ) → On i k → Onward i k
  onward i k on =
      let it = found (leads_on nodes) (λ edge. edge.from) (λ edge. edge.to) edges i k on in
      let first = and_parts (not it.edge.by_data && goes_straight nodes it.edge.from) (not (is_join nodes it.edge.to)) it.passes in
      let front = and_parts (not it.edge.by_data) (goes_straight nodes it.edge.from) first.0 in
      record {
        edge = (graph.control i k).0
            (subst (Contains edges) (edge_is it.edge i k it.begins it.ends (not-true it.edge.by_data front.0)) it.there);
        straight = ap (goes_straight nodes) (sym it.begins) ∙ front.1;
        no_join = ap (is_join nodes) (sym it.ends) ∙ not-true (is_join nodes it.edge.to) first.1;
      }

  on_of : (n m : Node) (i k : ℕ) → slice_get (nodes_in body) i ≡ Some n → slice_get (nodes_in body) k ≡ Some m → EdgeAll body n m →
      straight_node n ≡ true → join_node m ≡ false → On i k
  on_of n m i k one two edge straight no_join =
      arrow_of (leads_on nodes) (λ edge. edge.from) (λ edge. edge.to) edges (edge_between i k false) (edge_of n m i k one two edge)
      (and_from (goes_straight nodes i) (not (is_join nodes k)) (straight_at i n one ∙ straight) (ap not (join_at k m two ∙ no_join)))

  backward : (j k : ℕ) → Back j k → EdgeBetween (nodes_in body) (EdgeAll body) k j
  backward j k back =
      let it = found (λ edge. not edge.by_data) (λ edge. edge.to) (λ edge. edge.from) edges j k back in
      (graph.control k j).0 (subst (Contains edges) (edge_is it.edge k j it.ends it.begins (not-true it.edge.by_data it.passes)) it.there)

  back_of : (n m : Node) (i k : ℕ) → slice_get (nodes_in body) i ≡ Some n → slice_get (nodes_in body) k ≡ Some m → EdgeAll body n m → Back k i
  back_of n m i k one two edge =
      arrow_of (λ edge. not edge.by_data) (λ edge. edge.to) (λ edge. edge.from) edges (edge_between i k false) (edge_of n m i k one two edge) refl

  same_node : (n m : Node) (i j : ℕ) → slice_get (nodes_in body) i ≡ Some n → slice_get (nodes_in body) j ≡ Some m → i ≡ j → n ≡ m
  same_node n m i j one two is = same_Some n m (sym one ∙ ap (slice_get (nodes_in body)) is ∙ two)

  same_place : (n m : Node) (i j : ℕ) → slice_get (nodes_in body) i ≡ Some n → slice_get (nodes_in body) j ≡ Some m → n ≡ m → i ≡ j
  same_place n m i j one two is = once i j n one (two ∙ ap Some (sym is))

  -- ---- what passes could follow

  module _ (i j : ℕ) (starts : nat_eq j 0 ≡ false) (on : On i j) (only_on : (k : ℕ) → On i k → k ≡ j)
      (only_back : (k : ℕ) → Back j k → k ≡ i) where
    from_arrows : EdgeBetween (nodes_in body) (CouldFollow body) i j
    from_arrows =
        let it = onward i j on in
        let n : Node = it.edge.first in
        let m : Node = it.edge.second in
        let straight : straight_node n ≡ true = sym (straight_at i n it.edge.is_first) ∙ it.straight in
        record {
          first = n;
          second = m;
          is_first = it.edge.is_first;
          is_second = it.edge.is_second;
          edge = record {
            straight = straight;
            leads = it.edge.edge;
            nowhere_else = λ k edge. nowhere it.edge.first it.edge.second it.edge.is_first it.edge.is_second straight k edge;
            no_join = sym (join_at j m it.edge.is_second) ∙ it.no_join;
            no_resume = straight_rests within body n m once straight it.edge.edge;
            no_entry = λ is. true_and_false (nat_eq j 0) (number_test j 0 (once j 0 m it.edge.is_second (begins.entry m is))) starts;
            alone = λ k edge. alone it.edge.first it.edge.second it.edge.is_first it.edge.is_second k edge;
          };
        }
      where
        nowhere : (n m : Node) → slice_get (nodes_in body) i ≡ Some n → slice_get (nodes_in body) j ≡ Some m → straight_node n ≡ true →
            (k : Node) → EdgeAll body n k → (join_node k ≡ true) ⊎ (k ≡ m)
        nowhere n m one two straight k edge = by (join_node k) refl
          where
            by : (b : Bool) → join_node k ≡ b → (join_node k ≡ true) ⊎ (k ≡ m)
            by true is = inl is
            by false other =
                let ends = (within body).edges n k edge in
                let place = stands k ends.1 in
                inr (same_node k m place.place j place.there two (only_on place.place (on_of n k i place.place one place.there edge straight other)))

        alone : (n m : Node) → slice_get (nodes_in body) i ≡ Some n → slice_get (nodes_in body) j ≡ Some m →
            (k : Node) → EdgeAll body k m → k ≡ n
        alone n m one two k edge =
            let ends = (within body).edges k m edge in
            let place = stands k ends.0 in
            same_node k n place.place i place.there one (only_back place.place (back_of k m place.place j place.there two edge))

  pub passing_follows : (i j : ℕ) → follows (ways_of nodes edges) i j ≡ true → EdgeBetween (nodes_in body) (CouldFollow body) i j
  passing_follows i j passes =
      let first = and_parts (not (nat_eq j 0) && one_at (ways_of nodes edges).on i j) (one_at (ways_of nodes edges).from j i) passes in
      let front = and_parts (not (nat_eq j 0)) (one_at (ways_of nodes edges).on i j) first.0 in
      let on = one_told (leads_on nodes) (λ edge. edge.from) (λ edge. edge.to) edges (length nodes) i j front.1 in
      let back = one_told (λ edge. not edge.by_data) (λ edge. edge.to) (λ edge. edge.from) edges (length nodes) j i first.1 in
      from_arrows i j (not-true (nat_eq j 0) front.0) on.0 on.1 back.1

  -- ---- what could follow passes

  pub following_passes : (i j : ℕ) → EdgeBetween (nodes_in body) (CouldFollow body) i j → follows (ways_of nodes edges) i j ≡ true
  following_passes i j between =
      and_from (not (nat_eq j 0) && one_at (ways_of nodes edges).on i j) (one_at (ways_of nodes edges).from j i)
      (and_from (not (nat_eq j 0)) (one_at (ways_of nodes edges).on i j) (ap not later) on) back
    where
      n : Node
      n = between.first

      m : Node
      m = between.second

      later : nat_eq j 0 ≡ false
      later = by (nat_eq j 0) refl
        where
          by : (b : Bool) → nat_eq j 0 ≡ b → b ≡ false
          by true is =
              absurd (between.edge.no_entry (begins.first between.second
              (ap (slice_get (nodes_in body)) (sym (same_number j 0 is)) ∙ between.is_second)))
          by false other = refl

      only_on : (k : ℕ) → On i k → k ≡ j
      only_on k on =
          let it = onward i k on in
          let same : it.edge.first ≡ between.first = same_node it.edge.first between.first i i it.edge.is_first between.is_first refl in
          elim (between.edge.nowhere_else it.edge.second (subst (λ x. EdgeAll body x it.edge.second) same it.edge.edge)) [
            | inl join ↦ absurd (true_and_false (is_join nodes k) (join_at k it.edge.second it.edge.is_second ∙ join) it.no_join)
            | inr is ↦ same_place it.edge.second between.second k j it.edge.is_second between.is_second is
          ]

      only_back : (k : ℕ) → Back j k → k ≡ i
      only_back k back =
          let it = backward j k back in
          let same : it.second ≡ between.second = same_node it.second between.second j j it.is_second between.is_second refl in
          same_place it.first between.first k i it.is_first between.is_first
          (between.edge.alone it.first (subst (EdgeAll body it.first) same it.edge))

      on : one_at (ways_of nodes edges).on i j ≡ true
      on =
          tells_one (On i) (get_or (noted_on nodes edges (replicate (length nodes) way.Nowhere)) i way.Nowhere) j
          (way_tells (leads_on nodes) (λ edge. edge.from) (λ edge. edge.to) edges (length nodes) i (below i between.first between.is_first))
          (on_of between.first between.second i j between.is_first between.is_second between.edge.leads between.edge.straight between.edge.no_join)
          only_on

      back : one_at (ways_of nodes edges).from j i ≡ true
      back =
          tells_one (Back j) (get_or (noted_back edges (replicate (length nodes) way.Nowhere)) j way.Nowhere) i
          (way_tells (λ edge. not edge.by_data) (λ edge. edge.to) (λ edge. edge.from) edges (length nodes) j (below j between.second between.is_second))
          (back_of between.first between.second i j between.is_first between.is_second between.edge.leads)
          only_back
