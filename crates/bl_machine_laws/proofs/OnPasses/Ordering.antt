-- Numbers that rise and tell nodes apart: an order of the tick graph, and among nodes of one number their places in the body.
use Rattle.std.proofs.Common.{◌≡◌, ℕ, zero, suc, ◌+◌, ◌<◌, ◌≤◌, Bool, true, false, List, [], ◌∷◌, Option, Some, None, length, refl, sym, ap, ◌∙◌, subst}
use Rattle.std.proofs.Common.{arith}
use Rattle.std.specs.Prelude.{Contains, slice_get, if◌then◌else◌}
use Rattle.std.proofs.lemmas.Option.{slice_get_within}
use Rattle.bl_tree.specs.declared.tree.Unit.{Unit as UnitDef}
use Rattle.bl_graph_nodes.specs.Nodes.{Node, nodes_in}
use Rattle.bl_graph_nodes.specs.Plain.{Block, plain_body}
use Rattle.bl_graph.specs.Laws.{StaysWithin}
use Rattle.bl_ctree.specs.Instances.{Setting, unit_at}
use Rattle.bl_ctree_laws_traces.specs.Ready.Ordered.{HasRanks, OrdersGiveRanks}
use Rattle.bl_machine_laws.specs.Passes.Orders.{GraphsGiveOrders, HasOrders}
use Rattle.bl_machine_laws.proofs.OnPasses.Numbers.{Numbers, equal, less, more, numbers}
use Rattle.bl_ctree_laws_traces.proofs.OnReady.Numbering.{same_node, nodes_same, node_itself, place_in, in_place, Found}

-- ---- numbers

found : (xs : List Node) (n : Node) (k : ℕ) → slice_get xs k ≡ Some n → Found xs n
found [] n k e = absurd (none_is n e)
  where
    none_is : (n : Node) → None ≡ Some n → ⊥
    none_is n is = cc
found (x ∷ xs) n zero e = by_test (same_node x n) refl (node_itself n)
  where
    is : x ≡ n
    is = cc

    by_test : (b : Bool) → same_node x n ≡ b → same_node n n ≡ true → Found (x ∷ xs) n
    by_test true test itself =
        record { one = x; there = ap (λ b. slice_get (x ∷ xs) (if b then 0 else suc (place_in xs n))) test; same = nodes_same x n test }
    by_test false test itself = absurd (cc (test, ap (λ y. same_node y n) is, itself))
found (x ∷ xs) n (suc k) e = by_test (same_node x n) refl (found xs n k e)
  where
    by_test : (b : Bool) → same_node x n ≡ b → Found xs n → Found (x ∷ xs) n
    by_test true test rest =
        record { one = x; there = ap (λ b. slice_get (x ∷ xs) (if b then 0 else suc (place_in xs n))) test; same = nodes_same x n test }
    by_test false test rest = record {
      one = rest.one;
      there = ap (λ b. slice_get (x ∷ xs) (if b then 0 else suc (place_in xs n))) test ∙ rest.there;
      same = rest.same;
    }

-- ---- pairs of numbers as one

-- so many times a number
abbrev times : ℕ → ℕ → ℕ
times zero long = 0
times (suc k) long = long + times k long

times_less : (j k long : ℕ) → j < k → times j long + long ≤ times k long
times_less j zero long lt = absurd (omega arith)
times_less zero (suc k) long lt = omega arith
times_less (suc j) (suc k) long lt = let rest : times j long + long ≤ times k long = times_less j k long (omega arith) in omega arith

pair_less : (j k long p q : ℕ) → j < k → p < long → times j long + p < times k long + q
pair_less j k long p q lt within = let most : times j long + long ≤ times k long = times_less j k long lt in omega arith

pair_same : (j k long p q : ℕ) → p < long → q < long → times j long + p ≡ times k long + q → p ≡ q
pair_same j k long p q one other same = by_case (numbers j k)
  where
    by_case : Numbers j k → p ≡ q
    by_case (less lt) = let far : times j long + p < times k long + q = pair_less j k long p q lt one in absurd (omega arith)
    by_case (equal is) = let level : times j long ≡ times k long = ap (λ x. times x long) is in omega arith
    by_case (more lt) = let far : times k long + q < times j long + p = pair_less k j long q p lt other in absurd (omega arith)

-- ---- numbers

abbrev pub nodes_of_unit : Option UnitDef → List Node
nodes_of_unit None = []
nodes_of_unit (Some unit) = nodes_in (plain_body unit.body)

abbrev nodes_at : Setting → ℕ → List Node
nodes_at w i = nodes_of_unit (unit_at w i)

module _ (within : (body : Block) → StaysWithin body) (w : Setting) (ranks : HasRanks w) where
  abbrev number : ℕ → Node → ℕ
  number i n = times (ranks.rank i n) (length (nodes_at w i)) + place_in (nodes_at w i) n

  nodes_are : (i : ℕ) (unit : UnitDef) → unit_at w i ≡ Some unit → nodes_at w i ≡ nodes_in (plain_body unit.body)
  nodes_are i unit is = ap nodes_of_unit is

  -- where a node of the body stands
  stands_there : (i : ℕ) (unit : UnitDef) (n : Node) → unit_at w i ≡ Some unit → Contains (nodes_in (plain_body unit.body)) n →
      slice_get (nodes_at w i) (place_in (nodes_at w i) n) ≡ Some n
  stands_there i unit n is there =
      subst (λ xs. slice_get xs (place_in xs n) ≡ Some n) (sym (nodes_are i unit is)) (in_place unit.body [] n there)

  place_less : (i : ℕ) (unit : UnitDef) (n : Node) → unit_at w i ≡ Some unit → Contains (nodes_in (plain_body unit.body)) n →
      place_in (nodes_at w i) n < length (nodes_at w i)
  place_less i unit n is there = slice_get_within (nodes_at w i) (place_in (nodes_at w i) n) n (stands_there i unit n is there)

  number_less : (i : ℕ) (unit : UnitDef) (n m : Node) → unit_at w i ≡ Some unit → Contains (nodes_in (plain_body unit.body)) n →
      ranks.rank i n < ranks.rank i m → number i n < number i m
  number_less i unit n m is there lt =
      pair_less (ranks.rank i n) (ranks.rank i m) (length (nodes_at w i)) (place_in (nodes_at w i) n) (place_in (nodes_at w i) m) lt
      (place_less i unit n is there)

  some_is : (x y : Node) → Some x ≡ Some y → x ≡ y
  some_is x y e = cc

  pub has_orders : HasOrders w
  has_orders = record {
    rank = number;
    orders = record {
      rising = record {
        control = λ i unit is n m edge.
            number_less i unit n m is ((within (plain_body unit.body)).edges n m edge).0 (ranks.rising.control i unit is n m edge);
        by_data = λ i unit is n m edge.
            number_less i unit n m is ((within (plain_body unit.body)).beside n m edge.0).0 (ranks.rising.by_data i unit is n m edge);
      };
      apart = λ i unit n m is one other same.
          let places : place_in (nodes_at w i) n ≡ place_in (nodes_at w i) m =
          pair_same (ranks.rank i n) (ranks.rank i m) (length (nodes_at w i)) (place_in (nodes_at w i) n) (place_in (nodes_at w i) m)
          (place_less i unit n is one) (place_less i unit m is other) same in
          some_is n m
          (sym (stands_there i unit n is one) ∙ ap (λ k. slice_get (nodes_at w i) k) places ∙ stands_there i unit m is other);
    };
  }

pub graphs_give_orders : ((body : Block) → StaysWithin body) → OrdersGiveRanks → GraphsGiveOrders
graphs_give_orders within give w ordered = has_orders within w (give w ordered)
