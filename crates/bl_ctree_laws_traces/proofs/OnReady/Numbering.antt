-- An order of a tick graph numbers the nodes of its body.
use Rattle.std.proofs.Common.{◌≡◌, ℕ, zero, suc, ◌<◌, Bool, true, false, ◌&&◌, List, [], ◌∷◌, Option, Some, None, refl, sym, ap, ◌∙◌, subst, arith, eq-eqb}
use Rattle.std.proofs.Common.{eqb-true}
use Rattle.std.specs.Prelude.{Contains, nat_eq, slice_get, slice_index, if◌then◌else◌}
use Rattle.std.proofs.lemmas.Bool.{and_from}
use Rattle.bl_tree.proofs.Basics.{and_first, and_second}
use Rattle.bl_tree.specs.declared.tree.Stmt.{Stmt}
use Rattle.bl_tree.specs.declared.tree.Unit.{Unit as UnitDef}
use Rattle.bl_graph_nodes.specs.Nodes.{Node, label_of, nodes_in}
use Rattle.bl_graph_nodes.specs.Plain.{Block, Label, Position, plain_block, plain_body}
use Rattle.bl_graph.specs.DataEdges.{DataEdge}
use Rattle.bl_graph.specs.Edges.{EdgeAll}
use Rattle.bl_graph.specs.Graph.{EdgeBetween, edge_between}
use Rattle.bl_graph.specs.Laws.{StaysWithin}
use Rattle.bl_ctree.specs.Instances.{Setting, setting_of, unit_at}
use Rattle.bl_ctree_laws_confluence.specs.Deeds.Orderly.{AcceptedIsOrderly}
use Rattle.bl_ctree_laws_traces.specs.Ready.Never.{AcceptedNeverStuck}
use Rattle.bl_ctree_laws_traces.specs.Ready.Ordered.{AllOrdered, HasOrder, HasRanks, OrderedNeverStuck, OrdersGiveRanks}
use Rattle.bl_ctree_laws_traces.proofs.OnReady.Keys.{Same, bodies_differ_so, one_of_each, sort_of}

-- ---- tests of nodes

abbrev pub same_list : List ℕ → List ℕ → Bool
same_list [] [] = true
same_list [] (y ∷ ys) = false
same_list (x ∷ xs) [] = false
same_list (x ∷ xs) (y ∷ ys) = nat_eq x y && same_list xs ys

pub list_itself : (xs : List ℕ) → same_list xs xs ≡ true
list_itself [] = refl
list_itself (x ∷ xs) = and_from (nat_eq x x) (same_list xs xs) (eq-eqb x x refl) (list_itself xs)

pub lists_same : (xs ys : List ℕ) → same_list xs ys ≡ true → xs ≡ ys
lists_same [] [] e = refl
lists_same [] (y ∷ ys) e = absurd cc
lists_same (x ∷ xs) [] e = absurd cc
lists_same (x ∷ xs) (y ∷ ys) e =
    let head : x ≡ y = eqb-true x y (and_first (nat_eq x y) (same_list xs ys) e) in
    let tail : xs ≡ ys = lists_same xs ys (and_second (nat_eq x y) (same_list xs ys) e) in ap (λ z. z ∷ xs) head ∙ ap (λ zs. y ∷ zs) tail

abbrev pub same_node : Node → Node → Bool
same_node n m = same_list (label_of n).position (label_of m).position && (nat_eq (label_of n).passed (label_of m).passed && nat_eq (sort_of n) (sort_of m))

pub node_itself : (n : Node) → same_node n n ≡ true
node_itself n = and_from (same_list (label_of n).position (label_of n).position)
    (nat_eq (label_of n).passed (label_of n).passed && nat_eq (sort_of n) (sort_of n)) (list_itself (label_of n).position)
    (and_from (nat_eq (label_of n).passed (label_of n).passed) (nat_eq (sort_of n) (sort_of n))
    (eq-eqb (label_of n).passed (label_of n).passed refl) (eq-eqb (sort_of n) (sort_of n) refl))

abbrev label_with : Position → ℕ → Label
label_with at k = record { position = at; passed = k }

pub labels_same : (l m : Label) → l.position ≡ m.position → l.passed ≡ m.passed → l ≡ m
labels_same l m position passed =
    ap (λ at. label_with at l.passed) position ∙ ap (λ k. label_with m.position k) passed

pub nodes_same : (n m : Node) → same_node n m ≡ true → Same n m
nodes_same n m e =
    let rest : (nat_eq (label_of n).passed (label_of m).passed && nat_eq (sort_of n) (sort_of m)) ≡ true =
    and_second (same_list (label_of n).position (label_of m).position)
    (nat_eq (label_of n).passed (label_of m).passed && nat_eq (sort_of n) (sort_of m)) e in
    record {
      label = labels_same (label_of n) (label_of m)
          (lists_same (label_of n).position (label_of m).position
          (and_first (same_list (label_of n).position (label_of m).position)
          (nat_eq (label_of n).passed (label_of m).passed && nat_eq (sort_of n) (sort_of m)) e))
          (eqb-true (label_of n).passed (label_of m).passed
          (and_first (nat_eq (label_of n).passed (label_of m).passed) (nat_eq (sort_of n) (sort_of m)) rest));
      sort = eqb-true (sort_of n) (sort_of m) (and_second (nat_eq (label_of n).passed (label_of m).passed) (nat_eq (sort_of n) (sort_of m)) rest);
    }

-- ---- numbers

-- the first place at which the node stands
abbrev pub place_in : List Node → Node → ℕ
place_in [] n = 0
place_in (x ∷ xs) n = if same_node x n then 0 else suc (place_in xs n)

-- what stands there has its label and its sort
pub record Found (xs : List Node) (n : Node) : Type 0 where
  pub one : Node
  pub there : slice_get xs (place_in xs n) ≡ Some one
  pub same : Same one n

found : (xs : List Node) (n : Node) (k : ℕ) → slice_get xs k ≡ Some n → Found xs n
found [] n k e = absurd (none_is n e)
  where
    none_is : (n : Node) → None ≡ Some n → ⊥
    none_is n is = cc
found (x ∷ xs) n zero e = by_test (same_node x n) refl (node_itself n)
  where
    is : x ≡ n
    is = cc

    by_test : (b : Bool) → same_node x n ≡ b → same_node n n ≡ true → Found (x ∷ xs) n
    by_test true test itself =
        record { one = x; there = ap (λ b. slice_get (x ∷ xs) (if b then 0 else suc (place_in xs n))) test; same = nodes_same x n test }
    by_test false test itself = absurd (cc (test, ap (λ y. same_node y n) is, itself))
found (x ∷ xs) n (suc k) e = by_test (same_node x n) refl (found xs n k e)
  where
    by_test : (b : Bool) → same_node x n ≡ b → Found xs n → Found (x ∷ xs) n
    by_test true test rest =
        record { one = x; there = ap (λ b. slice_get (x ∷ xs) (if b then 0 else suc (place_in xs n))) test; same = nodes_same x n test }
    by_test false test rest = record {
      one = rest.one;
      there = ap (λ b. slice_get (x ∷ xs) (if b then 0 else suc (place_in xs n))) test ∙ rest.there;
      same = rest.same;
    }

-- a member stands somewhere
pub stands_at : (xs : List Node) (n : Node) → Contains xs n → (k : ℕ) × (slice_get xs k ≡ Some n)
stands_at [] n there = let below = there.1 in absurd (omega arith)
stands_at (x ∷ xs) n (zero, within, is) = (0, ap Some is)
stands_at (x ∷ xs) n (suc k, within, is) = let rest = stands_at xs n (k, omega arith, is) in (suc rest.0, rest.1)

-- and in a body at the first place
pub in_place : (body : List Stmt) (at : Position) (n : Node) → Contains (nodes_in (plain_block body at)) n →
    slice_get (nodes_in (plain_block body at)) (place_in (nodes_in (plain_block body at)) n) ≡ Some n
in_place body at n there =
    let nodes : List Node = nodes_in (plain_block body at) in
    let stands = stands_at nodes n there in
    let first = found nodes n stands.0 stands.1 in
    first.there ∙ ap Some (one_of_each nodes (bodies_differ_so body at) (place_in nodes n) stands.0 first.one n first.there stands.1 first.same)

-- ---- orders

abbrev number_by : (body : Block) → HasOrder body → Node → ℕ
number_by body order n = slice_index order.ranks (place_in (nodes_in body) n)

module _ (within : (body : Block) → StaysWithin body) (body : List Stmt) (order : HasOrder (plain_body body)) where
  abbrev B : Block
  B = plain_body body

  between : (E : Node → Node → Type 0) (n m : Node) → Contains (nodes_in B) n → Contains (nodes_in B) m → E n m →
      EdgeBetween (nodes_in B) E (place_in (nodes_in B) n) (place_in (nodes_in B) m)
  between E n m one other edge = record {
    first = n;
    second = m;
    is_first = in_place body [] n one;
    is_second = in_place body [] m other;
    edge = edge;
  }

  pub control_rises : (n m : Node) → EdgeAll B n m → number_by B order n < number_by B order m
  control_rises n m edge =
      let inside = (within B).edges n m edge in
      order.rises (edge_between (place_in (nodes_in B) n) (place_in (nodes_in B) m) false)
      ((order.is_graph.control (place_in (nodes_in B) n) (place_in (nodes_in B) m)).1 (between (EdgeAll B) n m inside.0 inside.1 edge))

  pub data_rises : (n m : Node) → DataEdge B n m → number_by B order n < number_by B order m
  data_rises n m edge =
      let inside = (within B).beside n m edge.0 in
      order.rises (edge_between (place_in (nodes_in B) n) (place_in (nodes_in B) m) true)
      ((order.is_graph.by_data (place_in (nodes_in B) n) (place_in (nodes_in B) m)).1 (between (DataEdge B) n m inside.0 inside.1 edge))

-- ---- programs

module _ (w : Setting) (ordered : AllOrdered w) where
  abbrev numbers : (i : ℕ) (found : Option UnitDef) → unit_at w i ≡ found → Node → ℕ
  numbers i None is n = 0
  numbers i (Some unit) is n = number_by (plain_body unit.body) (ordered i unit is) n

  abbrev rank : ℕ → Node → ℕ
  rank i n = numbers i (unit_at w i) refl n

  -- by the unit of the instance, which is one
  for_unit : (i : ℕ) (E : Block → Node → Node → Type 0) →
      ((unit : UnitDef) (is : unit_at w i ≡ Some unit) (n m : Node) → E (plain_body unit.body) n m →
      number_by (plain_body unit.body) (ordered i unit is) n < number_by (plain_body unit.body) (ordered i unit is) m) →
      (found : Option UnitDef) (same : unit_at w i ≡ found) (unit : UnitDef) → found ≡ Some unit → (n m : Node) → E (plain_body unit.body) n m →
      numbers i found same n < numbers i found same m
  for_unit i E rises None same unit is n m edge = absurd (cc (is))
  for_unit i E rises (Some other) same unit is n m edge =
      rises other same n m (subst (λ unit. E (plain_body unit.body) n m) (sym (one_unit other unit is)) edge)
    where
      one_unit : (a b : UnitDef) → Some a ≡ Some b → a ≡ b
      one_unit a b e = cc

  pub ranks : ((body : Block) → StaysWithin body) → HasRanks w
  ranks within = record {
    rank = rank;
    rising = record {
      control = λ i unit is. for_unit i (λ body. EdgeAll body)
          (λ unit is n m edge. control_rises within unit.body (ordered i unit is) n m edge) (unit_at w i) refl unit is;
      by_data = λ i unit is. for_unit i (λ body. DataEdge body)
          (λ unit is n m edge. data_rises within unit.body (ordered i unit is) n m edge) (unit_at w i) refl unit is;
    };
  }

pub orders_give_ranks : ((body : Block) → StaysWithin body) → OrdersGiveRanks
orders_give_ranks within w ordered = ranks w ordered within

pub ordered_never_stuck : OrdersGiveRanks → AcceptedIsOrderly → AcceptedNeverStuck → OrderedNeverStuck
ordered_never_stuck give orderly never structs units entry keeps passes ordered =
    let w : Setting = setting_of structs units entry in
    let has = give w (λ i unit is.
    let o = (orderly structs units entry keeps passes).each i unit is in ordered unit o.is_there o.activity) in
    never structs units entry has.rank keeps passes has.rising
