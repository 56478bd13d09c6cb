-- Positions in the blocks of a machine: they rise along edges, tell nodes apart, and can be found.
use Rattle.std.proofs.Common.{◌≡◌, ℕ, zero, suc, ◌<◌, Bool, true, false, List, [], ◌∷◌, ◌++◌, Option, Some, None, inl, inr, length, map, refl, sym, ap, ◌∙◌}
use Rattle.std.proofs.Common.{subst, arith, eq-eqb, eqb-true}
use Rattle.std.specs.Prelude.{Contains, nat_eq, option_and_then, slice_get, if◌then◌else◌}
use Rattle.std.proofs.lemmas.List.Sorted.{Contains-permutation}
use Rattle.std.proofs.lemmas.Option.{slice_get_within}
use Rattle.bl_tree.proofs.Basics.{contains_at, index_of, none_is_some, same_some, true_false_any}
use Rattle.bl_tree.specs.declared.tree.Unit.{Unit as UnitDef}
use Rattle.bl_tree.specs.Reduce.{joined}
use Rattle.bl_tree.specs.Typing.{is_activity}
use Rattle.bl_graph_nodes.specs.Nodes.{Node, nodes_in}
use Rattle.bl_graph_nodes.specs.Plain.{Block, plain_body}
use Rattle.bl_graph.specs.Laws.{StaysWithin}
use Rattle.bl_cause.specs.Activities.{activities, graph_position}
use Rattle.bl_cause.proofs.PairLemmas.{contains_last, contains_left, each_at, filtered_at}
use Rattle.bl_ctree.specs.declared.instance.Instance.{Instance}
use Rattle.bl_ctree.specs.Instances.{Setting, setting_of, unit_at, unit_of}
use Rattle.bl_ctree_laws_confluence.specs.Deeds.Orderly.{AcceptedIsOrderly}
use Rattle.bl_ctree_laws_traces.proofs.OnReady.Keys.{Differ, Same, bodies_differ_so}
use Rattle.bl_machine.specs.declared.machine.Activity.{Activity}
use Rattle.bl_machine.specs.Blocks.{EdgeLeads, Ordered, up_to}
use Rattle.bl_machine.specs.Machines.{AreActivitiesOf, IsActivityOf}
use Rattle.bl_machine_laws.specs.Passes.Orders.{GraphsGiveOrders, HasOrders, Orders}
use Rattle.bl_machine_laws.proofs.OnPasses.Numbers.{Numbers, equal, less, more, numbers}
use Rattle.bl_machine_laws.specs.Traces.Positions.{GoBy, HasPositions, MachinesGiveOrders}
use Rattle.bl_machine_laws.proofs.OnPasses.Ordering.{nodes_of_unit}
use Rattle.bl_ctree_laws_traces.proofs.OnReady.Keys.{has_at, itself as one_itself}

-- ---- positions in lists

-- the first place at which the number stands
abbrev place : List ℕ → ℕ → ℕ
place [] x = 0
place (y ∷ ys) x = if nat_eq y x then 0 else suc (place ys x)

place_there : (ys : List ℕ) (x k : ℕ) → slice_get ys k ≡ Some x → slice_get ys (place ys x) ≡ Some x
place_there [] x k e = none_is_some x e
place_there (y ∷ ys) x zero e = by_test (nat_eq y x) refl
  where
    by_test : (b : Bool) → nat_eq y x ≡ b → slice_get (y ∷ ys) (place (y ∷ ys) x) ≡ Some x
    by_test true test = ap (λ b. slice_get (y ∷ ys) (if b then 0 else suc (place ys x))) test ∙ e
    by_test false test = true_false_any (nat_eq y x) (eq-eqb y x (same_some y x e)) test
place_there (y ∷ ys) x (suc k) e = by_test (nat_eq y x) refl (place_there ys x k e)
  where
    by_test : (b : Bool) → nat_eq y x ≡ b → slice_get ys (place ys x) ≡ Some x → slice_get (y ∷ ys) (place (y ∷ ys) x) ≡ Some x
    by_test true test rest = ap (λ b. slice_get (y ∷ ys) (if b then 0 else suc (place ys x))) test ∙ ap Some (eqb-true y x test)
    by_test false test rest = ap (λ b. slice_get (y ∷ ys) (if b then 0 else suc (place ys x))) test ∙ rest

mapped : (f : Node → ℕ) (xs : List Node) (k : ℕ) (n : Node) → slice_get xs k ≡ Some n → slice_get (map f xs) k ≡ Some (f n)
mapped f [] k n e = none_is_some n e
mapped f (x ∷ xs) zero n e = ap Some (ap f (same_some x n e))
mapped f (x ∷ xs) (suc k) n e = mapped f xs k n e

record Came (f : Node → ℕ) (xs : List Node) (k v : ℕ) : Type 0 where
  node : Node
  there : slice_get xs k ≡ Some node
  value : f node ≡ v

came : (f : Node → ℕ) (xs : List Node) (k v : ℕ) → slice_get (map f xs) k ≡ Some v → Came f xs k v
came f [] k v e = none_is_some v e
came f (x ∷ xs) zero v e = record { node = x; there = refl; value = same_some (f x) v e }
came f (x ∷ xs) (suc k) v e = let rest = came f xs k v e in record { node = rest.node; there = rest.there; value = rest.value }

itself : (x n : Node) → x ≡ n → Same x n
itself x n is = subst (Same x) is (one_itself x)

-- no node stands twice
pub one_place : (xs : List Node) → Differ xs → (i j : ℕ) (n : Node) → slice_get xs i ≡ Some n → slice_get xs j ≡ Some n → i ≡ j
one_place [] apart i j n one two = none_is_some n one
one_place (x ∷ xs) apart zero zero n one two = refl
one_place (x ∷ xs) apart zero (suc j) n one two = absurd (apart.0 (has_at xs j x n two (itself x n (same_some x n one))))
one_place (x ∷ xs) apart (suc i) zero n one two = absurd (apart.0 (has_at xs i x n one (itself x n (same_some x n two))))
one_place (x ∷ xs) apart (suc i) (suc j) n one two = ap suc (one_place xs apart.1 i j n one two)

-- a node is found by numbers that tell nodes apart
number_is : (f : Node → ℕ) (xs : List Node) → Differ xs → ((n m : Node) → Contains xs n → Contains xs m → f n ≡ f m → n ≡ m) →
    (k : ℕ) (n : Node) → slice_get xs k ≡ Some n → place (map f xs) (f n) ≡ k
number_is f xs differs apart k n e =
    let there = came f xs (place (map f xs) (f n)) (f n) (place_there (map f xs) (f n) k (mapped f xs k n e)) in
    let same : there.node ≡ n =
    apart there.node n (contains_at xs (place (map f xs) (f n)) there.node there.there) (contains_at xs k n e) there.value in
    one_place xs differs (place (map f xs) (f n)) k n (there.there ∙ ap Some same) e

pub up_to_has : (count k : ℕ) → k < count → Contains (up_to count) k
up_to_has zero k lt = absurd (omega arith)
up_to_has (suc count) k lt = by_case (numbers k count) (λ below. up_to_has count k below)
  where
    by_case : Numbers k count → (k < count → Contains (up_to count) k) → Contains (up_to (suc count)) k
    by_case (less below) rest = contains_left (up_to count) (count ∷ []) k (rest below)
    by_case (equal is) rest = subst (λ x. Contains (up_to count ++ x ∷ []) k) is (contains_last (up_to count) k)
    by_case (more above) rest = absurd (omega arith)

-- each number of a node has a position
position_there : (body : Block) (blocks : List (List ℕ)) → Ordered body blocks → (k : ℕ) (n : Node) → slice_get (nodes_in body) k ≡ Some n →
    (p : ℕ) × (slice_get (joined blocks) p ≡ Some k)
position_there body blocks ordered k n e =
    index_of (joined blocks) k
    (Contains-permutation (up_to (length (nodes_in body))) (joined blocks) k ordered.all
    (up_to_has (length (nodes_in body)) k (slice_get_within (nodes_in body) k n e)))

-- ---- the activity of an instance

pub record InstanceThere (w : Setting) (i : ℕ) (unit : UnitDef) : Type 0 where
  pub instance : Instance
  pub is : slice_get w.instances i ≡ Some instance
  pub is_unit : slice_get w.units instance.unit ≡ Some unit

pub instance_there : (w : Setting) (i : ℕ) (unit : UnitDef) (found : Option Instance) → slice_get w.instances i ≡ found →
    option_and_then (unit_of w) found ≡ Some unit → InstanceThere w i unit
instance_there w i unit None is of = none_is_some unit of
instance_there w i unit (Some instance) is of = record { instance = instance; is = is; is_unit = of }

record ActivityThere (units : List UnitDef) (machine : List Activity) (at : ℕ) (unit : UnitDef) : Type 0 where
  activity : Activity
  is : slice_get machine (graph_position units at) ≡ Some activity
  order : Ordered (plain_body unit.body) activity.blocks

activity_there : (units : List UnitDef) (machine : List Activity) → AreActivitiesOf units machine → (at : ℕ) (unit : UnitDef) →
    slice_get units at ≡ Some unit → is_activity unit.kind ≡ true → ActivityThere units machine at unit
activity_there units machine are at unit is activity =
    let own = each_at IsActivityOf (activities units) machine (graph_position units at) unit are
    (filtered_at (λ it. is_activity it.kind) units at unit is activity) in
    record { activity = own.0; is = own.1; order = own.2.order }

-- ---- orders

module _ (within : (body : Block) → StaysWithin body) (w : Setting) (machine : List Activity) (are : AreActivitiesOf w.units machine)
    (active : (i : ℕ) (unit : UnitDef) → unit_at w i ≡ Some unit → is_activity unit.kind ≡ true) (rank : ℕ → Node → ℕ)
    (go_by : GoBy w machine rank) where
  record Stands (i : ℕ) (unit : UnitDef) : Type 0 where
    instance : InstanceThere w i unit
    activity : ActivityThere w.units machine instance.instance.unit unit

  stands : (i : ℕ) (unit : UnitDef) → unit_at w i ≡ Some unit → Stands i unit
  stands i unit is =
      let instance = instance_there w i unit (slice_get w.instances i) refl is in
      record { instance = instance; activity = activity_there w.units machine are instance.instance.unit unit instance.is_unit (active i unit is) }

  at_rank : (i : ℕ) (unit : UnitDef) (s : Stands i unit) (n : Node) (k : ℕ) → slice_get (nodes_in (plain_body unit.body)) k ≡ Some n →
      slice_get (joined s.activity.activity.blocks) (rank i n) ≡ Some k
  at_rank i unit s n k e = go_by i s.instance.instance unit s.activity.activity n k s.instance.is s.instance.is_unit s.activity.is e

  rises : (i : ℕ) (unit : UnitDef) → unit_at w i ≡ Some unit → (n m : Node) → Contains (nodes_in (plain_body unit.body)) n →
      Contains (nodes_in (plain_body unit.body)) m → EdgeLeads (plain_body unit.body) n m → rank i n < rank i m
  rises i unit is n m one other leads =
      let s = stands i unit is in
      let first = index_of (nodes_in (plain_body unit.body)) n one in
      let second = index_of (nodes_in (plain_body unit.body)) m other in
      s.activity.order.rises (rank i n) (rank i m) first.0 second.0 (at_rank i unit s n first.0 first.1) (at_rank i unit s m second.0 second.1)
      (record { first = n; second = m; is_first = first.1; is_second = second.1; edge = leads })

  tells_apart : (i : ℕ) (unit : UnitDef) (n m : Node) → unit_at w i ≡ Some unit → Contains (nodes_in (plain_body unit.body)) n →
      Contains (nodes_in (plain_body unit.body)) m → rank i n ≡ rank i m → n ≡ m
  tells_apart i unit n m is one other same =
      let s = stands i unit is in
      let first = index_of (nodes_in (plain_body unit.body)) n one in
      let second = index_of (nodes_in (plain_body unit.body)) m other in
      let numbers_same : first.0 ≡ second.0 =
      same_some first.0 second.0 (sym (at_rank i unit s n first.0 first.1)
      ∙ ap (λ p. slice_get (joined s.activity.activity.blocks) p) same ∙ at_rank i unit s m second.0 second.1) in
      same_some n m (sym first.1 ∙ ap (λ k. slice_get (nodes_in (plain_body unit.body)) k) numbers_same ∙ second.1)

  pub orders_of : Orders w rank
  orders_of = record {
    rising = record {
      control = λ i unit is n m edge.
          (let inside = (within (plain_body unit.body)).edges n m edge in rises i unit is n m inside.0 inside.1 (inl edge));
      by_data = λ i unit is n m edge.
          (let inside = (within (plain_body unit.body)).beside n m edge.0 in rises i unit is n m inside.0 inside.1 (inr edge));
    };
    apart = tells_apart;
  }

-- ---- numbers that are positions

abbrev machine_at : List UnitDef → List Activity → Option Instance → Option Activity
machine_at units machine None = None
machine_at units machine (Some instance) = slice_get machine (graph_position units instance.unit)

abbrev order_of : Option Activity → List ℕ
order_of None = []
order_of (Some activity) = joined activity.blocks

module _ (w : Setting) (machine : List Activity) (are : AreActivitiesOf w.units machine)
    (active : (i : ℕ) (unit : UnitDef) → unit_at w i ≡ Some unit → is_activity unit.kind ≡ true) (has : HasOrders w) where
  abbrev order_at : ℕ → List ℕ
  order_at i = order_of (machine_at w.units machine (slice_get w.instances i))

  abbrev number : ℕ → Node → ℕ
  number i n = place (map (has.rank i) (nodes_of_unit (unit_at w i))) (has.rank i n)

  abbrev position_of : ℕ → Node → ℕ
  position_of i n = place (order_at i) (number i n)

  is_position : GoBy w machine position_of
  is_position i instance unit activity n k is is_unit is_active e =
      let of_unit : unit_at w i ≡ Some unit = ap (λ found. option_and_then (unit_of w) found) is ∙ is_unit in
      let order : order_at i ≡ joined activity.blocks =
      ap (λ found. order_of (machine_at w.units machine found)) is ∙ ap order_of is_active in
      let numbered : number i n ≡ k =
      ap (λ found. place (map (has.rank i) (nodes_of_unit found)) (has.rank i n)) of_unit
      ∙ number_is (has.rank i) (nodes_in (plain_body unit.body)) (bodies_differ_so unit.body [])
      (λ n m one other same. has.orders.apart i unit n m of_unit one other same) k n e in
      let own = activity_there w.units machine are instance.unit unit is_unit (active i unit of_unit) in
      let ordered : Ordered (plain_body unit.body) activity.blocks =
      subst (λ (a : Activity). Ordered (plain_body unit.body) a.blocks) (same_some own.activity activity (sym own.is ∙ is_active)) own.order in
      let there = position_there (plain_body unit.body) activity.blocks ordered k n e in
      ap (λ xs. slice_get (joined activity.blocks) (place xs (number i n))) order
      ∙ ap (λ x. slice_get (joined activity.blocks) (place (joined activity.blocks) x)) numbered
      ∙ place_there (joined activity.blocks) k there.0 there.1

  pub has_positions : HasPositions w machine
  has_positions = record { rank = position_of; go_by = is_position }

pub machines_give_orders : ((body : Block) → StaysWithin body) → GraphsGiveOrders → AcceptedIsOrderly → MachinesGiveOrders
machines_give_orders within give orderly = record {
  orders = λ structs units entry machine rank keeps passes are go_by.
      orders_of within (setting_of structs units entry) machine are
      (λ i unit is. ((orderly structs units entry keeps passes).each i unit is).activity) rank go_by;
  positions = λ structs units entry machine keeps passes ordered are.
      has_positions (setting_of structs units entry) machine are
      (λ i unit is. ((orderly structs units entry keeps passes).each i unit is).activity)
      (give (setting_of structs units entry) (λ i unit is.
      let o = (orderly structs units entry keeps passes).each i unit is in ordered unit o.is_there o.activity));
}
