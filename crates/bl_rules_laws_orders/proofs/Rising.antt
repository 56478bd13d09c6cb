-- The numbers by the orders of an accepted program rise.
use Rattle.std.proofs.Common.{◌≡◌, ◌∙◌, ℕ, zero, suc, ◌<◌, Bool, true, false, List, [], ◌∷◌, Option, Some, None, if◌then◌else◌, ap, arith, eq-eqb, eqb-true, refl, subst, sym}
use Rattle.std.specs.Prelude.{Contains, nat_eq, option_and_then, slice_get, slice_index}
use Rattle.std.proofs.lemmas.Bool.{and_from}
use Rattle.bl_cause.specs.Accepted.{AcceptedProgram, IsAccepted}
use Rattle.bl_cause.specs.Activities.{graph_position}
use Rattle.bl_cause.specs.Laws.{GraphsAreFound, HasGraph, HasOrder, OrdersAreFound}
use Rattle.bl_cause.specs.declared.order.Order.{Order}
use Rattle.bl_ctree.specs.Instances.{Setting, setting_of, unit_at, unit_of}
use Rattle.bl_ctree.specs.declared.instance.Instance.{Instance}
use Rattle.bl_ctree_laws_confluence.specs.Deeds.Orderly.{AcceptedIsOrderly, OrderlyUnit}
use Rattle.bl_ctree_laws_traces.proofs.OnReady.Numbering.{stands_at}
use Rattle.bl_graph.specs.DataEdges.{DataEdge}
use Rattle.bl_graph.specs.Edges.{EdgeAll}
use Rattle.bl_graph.specs.Graph.{EdgeBetween, edge_between}
use Rattle.bl_graph.specs.Laws.{StaysWithin}
use Rattle.bl_graph_nodes.specs.Nodes.{Node, label_of, nodes_in}
use Rattle.bl_graph_nodes.specs.Plain.{Block, plain_body}
use Rattle.bl_machine_pass.specs.Numbered.{position_where, same_label, same_node, sort}
use Rattle.bl_machine_pass_laws.proofs.OnSlots.Finding.{found_first, label_is, label_itself}
use Rattle.bl_machine_pass_laws.specs.Keys.{NodesHaveKeys}
use Rattle.bl_rules_laws_orders.specs.Ranks.{OrdersRise, number_in, rank_by}
use Rattle.bl_tree.proofs.Basics.{and_first, and_second, contains_at, none_is_some, same_some}
use Rattle.bl_tree.specs.declared.tree.Stmt.{Stmt}
use Rattle.bl_tree.specs.declared.tree.Unit.{Unit as UnitDef}

-- ---- positions of nodes

node_itself : (n : Node) → same_node n n ≡ true
node_itself n =
    and_from (same_label (label_of n) (label_of n)) (nat_eq (sort n) (sort n)) (label_itself (label_of n)) (eq-eqb (sort n) (sort n) refl)

past : (b : Bool) (k : ℕ) → (b ≡ true → ⊥) → (if b then 0 else suc k) ≡ suc k
past true k none = absurd (none refl)
past false k none = refl

-- a node stands at its first position, where no other node is taken for it
found_where : (xs : List Node) (i : ℕ) (n : Node) → slice_get xs i ≡ Some n →
    ((j : ℕ) (m : Node) → slice_get xs j ≡ Some m → same_node n m ≡ true → j ≡ i) → position_where (same_node n) xs ≡ i
found_where [] i n is alone = none_is_some n is
found_where (x ∷ xs) zero n is alone =
    found_first (same_node n x) (position_where (same_node n) xs) (subst (λ z. same_node n z ≡ true) (sym (same_some x n is)) (node_itself n))
found_where (x ∷ xs) (suc i) n is alone =
    past (same_node n x) (position_where (same_node n) xs)
    (λ e. let first : 0 ≡ suc i = alone 0 x refl e in absurd (omega (arith, first)))
    ∙ ap suc (found_where xs i n is (λ j m there e. let later : suc j ≡ suc i = alone (suc j) m there e in omega (arith, later)))

module _ (law : NodesHaveKeys) (body : List Stmt) where
  abbrev nodes : List Node
  nodes = nodes_in (plain_body body)

  one_node : (i j : ℕ) (n m : Node) → slice_get nodes i ≡ Some n → slice_get nodes j ≡ Some m → same_node n m ≡ true → j ≡ i
  one_node i j n m is there same =
      let label : label_of n ≡ label_of m =
      label_is (label_of n) (label_of m) (and_first (same_label (label_of n) (label_of m)) (nat_eq (sort n) (sort m)) same) in
      let sorted : sort n ≡ sort m = eqb-true (sort n) (sort m) (and_second (same_label (label_of n) (label_of m)) (nat_eq (sort n) (sort m)) same) in
      let one : n ≡ m = law.keys body [] n m (contains_at nodes i n is) (contains_at nodes j m there) label sorted in
      law.once body [] j i n (there ∙ ap Some (sym one)) is

  node_at : (n : Node) → Contains nodes n → slice_get nodes (position_where (same_node n) nodes) ≡ Some n
  node_at n inside =
      let stands = stands_at nodes n inside in
      let first : position_where (same_node n) nodes ≡ stands.0 =
      found_where nodes stands.0 n stands.1 (λ j m there same. one_node stands.0 j n m stands.1 there same) in
      ap (slice_get nodes) first ∙ stands.1

  between : (E : Node → Node → Type 0) (n m : Node) → Contains nodes n → Contains nodes m → E n m →
      EdgeBetween nodes E (position_where (same_node n) nodes) (position_where (same_node m) nodes)
  between E n m one other edge =
      record { first = n; second = m; is_first = node_at n one; is_second = node_at m other; edge = edge }

-- ---- units and instances

-- an instance with its unit
record IsOf (w : Setting) (i : ℕ) (unit : UnitDef) : Type 0 where
  instance : Instance
  stands : slice_get w.instances i ≡ Some instance
  is_unit : slice_get w.units instance.unit ≡ Some unit

instance_of : (w : Setting) (i : ℕ) (unit : UnitDef) → unit_at w i ≡ Some unit → IsOf w i unit
instance_of w i unit is = by_found (slice_get w.instances i) refl is
  where
    by_found : (found : Option Instance) → slice_get w.instances i ≡ found → option_and_then (unit_of w) found ≡ Some unit → IsOf w i unit
    by_found None there is = none_is_some unit is
    by_found (Some instance) there is = record { instance = instance; stands = there; is_unit = is }

module _ (law : NodesHaveKeys) (within : (body : Block) → StaysWithin body) (found_graphs : GraphsAreFound) (found_orders : OrdersAreFound)
    (orderly : AcceptedIsOrderly) (accepted : AcceptedProgram) (is : IsAccepted accepted) where
  abbrev w : Setting
  w = setting_of accepted.program.structs accepted.program.units accepted.program.entry

  module _ (i : ℕ) (unit : UnitDef) (there : unit_at w i ≡ Some unit) where
    abbrev of : IsOf w i unit
    of = instance_of w i unit there

    abbrev own : OrderlyUnit accepted.program.structs accepted.program.units unit
    own = (orderly accepted.program.structs accepted.program.units accepted.program.entry accepted.program.well_typed is.passes).each i unit there

    abbrev graph : HasGraph accepted.program.units accepted.graphs of.instance.unit unit
    graph = found_graphs accepted.program.units accepted.graphs is.schedule.each_graph of.instance.unit unit of.is_unit own.activity

    abbrev order : HasOrder graph.graph accepted.orders (graph_position accepted.program.units of.instance.unit)
    order = found_orders accepted.graphs accepted.orders is.schedule.each_order (graph_position accepted.program.units of.instance.unit) graph.graph graph.stands

    rank_is : (n : Node) → rank_by w accepted.orders i n ≡ number_in unit n order.order
    rank_is n = rw (of.stands, of.is_unit, order.stands) refl

    rises : (n m : Node) → number_in unit n order.order < number_in unit m order.order → rank_by w accepted.orders i n < rank_by w accepted.orders i m
    rises n m less = let first = rank_is n in let second = rank_is m in omega (arith, first, second, less)

    control_rises : (n m : Node) → EdgeAll (plain_body unit.body) n m → rank_by w accepted.orders i n < rank_by w accepted.orders i m
    control_rises n m edge =
        let inside = (within (plain_body unit.body)).edges n m edge in
        let nodes = nodes_in (plain_body unit.body) in
        let at = position_where (same_node n) nodes in
        let next = position_where (same_node m) nodes in
        rises n m
        (order.of_graph (edge_between at next false)
        ((graph.of_unit.control at next).1 (between law unit.body (EdgeAll (plain_body unit.body)) n m inside.0 inside.1 edge)))

    data_rises : (n m : Node) → DataEdge (plain_body unit.body) n m → rank_by w accepted.orders i n < rank_by w accepted.orders i m
    data_rises n m edge =
        let inside = (within (plain_body unit.body)).beside n m edge.0 in
        let nodes = nodes_in (plain_body unit.body) in
        let at = position_where (same_node n) nodes in
        let next = position_where (same_node m) nodes in
        rises n m
        (order.of_graph (edge_between at next true)
        ((graph.of_unit.by_data at next).1 (between law unit.body (DataEdge (plain_body unit.body)) n m inside.0 inside.1 edge)))

pub orders_rise : NodesHaveKeys → ((body : Block) → StaysWithin body) → GraphsAreFound → OrdersAreFound → AcceptedIsOrderly → OrdersRise
orders_rise law within graphs orders orderly accepted is = record {
  control = λ i unit there n m edge. control_rises law within graphs orders orderly accepted is i unit there n m edge;
  by_data = λ i unit there n m edge. data_rises law within graphs orders orderly accepted is i unit there n m edge;
}
