-- `run`s of different places of a body have different numbers, and names.
use Rattle.std.proofs.Common.{◌≡◌, ℕ, ◌+◌, ◌<◌, ◌^◌, true, false, List, [], ◌∷◌, Contains, Some}
use Rattle.std.proofs.Common.{length, nat_eq, sym, ap, subst, ◌∙◌, arith}
use Rattle.std.proofs.lemmas.Option.{same_Some}
use Rattle.std.specs.Prelude.{IsPermutation, bytes_eq, slice_get}
use Rattle.bl_tree.proofs.Basics.{contains_at, index_of, within_at}
use Rattle.bl_tree.specs.declared.place.Place.{Place}
use Rattle.bl_tree.specs.declared.tree.StructDef.{StructDef}
use Rattle.bl_tree.specs.declared.tree.Unit.{Unit as UnitDef}
use Rattle.bl_tree.specs.Reduce.{joined}
use Rattle.bl_tree.specs.Typing.{is_activity}
use Rattle.bl_cause.specs.Activities.{activities as activities_of, graph_position}
use Rattle.bl_cause.proofs.PairLemmas.{each_at, filtered_at}
use Rattle.bl_graph_nodes.specs.Nodes.{Arguments, EnterAt, Node, nodes_in, place_of_node}
use Rattle.bl_graph_nodes.specs.Plain.{Label, plain_body}
use Rattle.bl_ctree.specs.Instances.{Setting, setting_of, unit_at}
use Rattle.bl_machine.specs.declared.machine.Activity.{Activity as InMachine}
use Rattle.bl_machine.specs.Blocks.{Ordered, up_to}
use Rattle.bl_machine.specs.Machines.{IsActivityOf}
use Rattle.bl_machine_pass.specs.Numbered.{position_where}
use Rattle.bl_machine_pass_laws.specs.Turns.Laws.{StaysPlaced}
use Rattle.bl_machine_pass_laws.specs.Keys.{NodesHaveKeys}
use Rattle.bl_machine_transitions.specs.Callees.{node_number}
use Rattle.bl_machine_transitions.specs.Listed.{layout_of}
use Rattle.bl_machine_transitions_laws.proofs.Standing.{nodes_stand}
use Rattle.bl_emit_spec.specs.Activities.{Activity, activity_view}
use Rattle.bl_emit_spec.specs.Names.{callee_name}
use Rattle.bl_emit_spec_laws.specs.Calls.Built.{Activities, activity_at, rank_by, run_by, unit_number}
use Rattle.bl_emit_spec_laws.specs.Calls.Laws.{CompilationContext}
use Rattle.bl_emit_spec_laws.proofs.OnPlaced.Lists.{found_at, number_once, number_there}
use Rattle.bl_emit_spec_laws.proofs.OnRunPlaces.Sharing.{FirstNode, first_node}
use Rattle.bl_emit_spec_laws_simulation.proofs.OnLeaves.Numbers.{callees_differ as callees_apart}
use Rattle.bl_emit_spec_laws.proofs.OnActivities.Nested.{unit_there}
use Rattle.bl_emit_spec_laws.proofs.OnPlaced.Placing.{agrees_at}

-- ---- numbers

-- the numbers of the nodes of a body by an order of them
module _ (keys : NodesHaveKeys) (a : Activity) (unit : UnitDef) (one : InMachine) (unit_is : a.unit ≡ unit) (order_is : a.order ≡ joined one.blocks)
    (ordered : Ordered (plain_body unit.body) one.blocks)
  where
    abbrev nodes : List Node
    nodes = nodes_in (plain_body unit.body)

    permutes : IsPermutation (up_to (length nodes)) a.order
    permutes = subst (λ order. IsPermutation (up_to (length nodes)) order) (sym order_is) ordered.all

    number_is : (p k : ℕ) (n : Node) → slice_get nodes p ≡ Some n → slice_get a.order k ≡ Some p → (activity_view a).number n ≡ k
    number_is p k n is at =
        let none : 0 + p ≡ p = omega arith in
        ap (λ (u : UnitDef). node_number a.order (plain_body u.body) n) unit_is
        ∙ agrees_at (node_number a.order (plain_body unit.body)) (layout_of a.order one.slots).number nodes 0 p n
        (nodes_stand keys unit.body a.order one.slots) is
        ∙ ap (λ q. position_where (nat_eq q) a.order) none
        ∙ found_at p a.order k at (λ j there. number_once (length nodes) a.order permutes p j k there at)

    pub numbers_tell : (n m : Node) → Contains nodes n → Contains nodes m → (activity_view a).number n ≡ (activity_view a).number m → n ≡ m
    numbers_tell n m first second same =
        let p = index_of nodes n first in
        let q = index_of nodes m second in
        let k = number_there (length nodes) a.order permutes p.0 (within_at nodes p.0 n p.1) in
        let j = number_there (length nodes) a.order permutes q.0 (within_at nodes q.0 m q.1) in
        let one : k.0 ≡ j.0 = sym (number_is p.0 k.0 n p.1 k.1) ∙ (same ∙ number_is q.0 j.0 m q.1 j.1) in
        let both : p.0 ≡ q.0 = same_Some p.0 q.0 (sym k.1 ∙ (ap (slice_get a.order) one ∙ j.1)) in
        same_Some n m (sym p.1 ∙ (ap (slice_get nodes) both ∙ q.1))

-- ---- the activities of a program

module _ (keys : NodesHaveKeys) (placed : StaysPlaced) (structs : List StructDef) (units : List UnitDef) (entry : ℕ) (machine : List InMachine)
    (activities : Activities) (compiled : CompilationContext structs units entry machine activities) (i : ℕ) (unit : UnitDef)
    (is : unit_at (setting_of structs units entry) i ≡ Some unit) (active : is_activity unit.kind ≡ true)
  where
    abbrev w : Setting
    w = setting_of structs units entry

    abbrev a : Activity
    a = activity_at w activities i

    abbrev k : ℕ
    k = unit_number w i

    there : slice_get units k ≡ Some unit
    there = unit_there w i unit is

    -- nodes of one number are one
    pub ranks_tell : (n m : Node) → Contains (nodes_in (plain_body unit.body)) n → Contains (nodes_in (plain_body unit.body)) m →
        rank_by w activities i n ≡ rank_by w activities i m → n ≡ m
    ranks_tell =
        let own = each_at IsActivityOf (activities_of units) machine (graph_position units k) unit compiled.agrees
        (filtered_at (λ it. is_activity it.kind) units k unit there active) in
        let parts = compiled.built.made k unit there active in
        let same : own.0 ≡ parts.one = same_Some own.0 parts.one (sym own.1 ∙ parts.is) in
        numbers_tell keys a unit parts.one (compiled.built.unit k unit there) parts.order
        (subst (λ (one : InMachine). Ordered (plain_body unit.body) one.blocks) same own.2.order)

    -- the number of the node at which a `run` begins fits a name
    rank_small : (l : Label) (at : Place) (arguments : Arguments) → Contains (nodes_in (plain_body unit.body)) (EnterAt l at arguments) →
        rank_by w activities i (EnterAt l at arguments) < 2 ^ 64
    rank_small l at arguments within = compiled.nodes k unit (EnterAt l at arguments) there active within

    own_unit : a.unit ≡ unit
    own_unit = compiled.built.unit k unit there

    -- the first node at which a `run` at the place begins
    first_here : (l : Label) (at : Place) (arguments : Arguments) → Contains (nodes_in (plain_body unit.body)) (EnterAt l at arguments) →
        FirstNode placed.nodes a at
    first_here l at arguments within =
        first_node placed.nodes a l at arguments
        (subst (λ (u : UnitDef). Contains (nodes_in (plain_body u.body)) (EnterAt l at arguments)) (sym own_unit) within)

    first_in : (at : Place) (first : FirstNode placed.nodes a at) → Contains (nodes_in (plain_body unit.body)) (EnterAt first.label at first.arguments)
    first_in at first =
        subst (λ (u : UnitDef). Contains (nodes_in (plain_body u.body)) (EnterAt first.label at first.arguments)) own_unit
        (contains_at (nodes_in (plain_body a.unit.body)) first.position (EnterAt first.label at first.arguments) first.is_there)

    -- the number of a place of `run`s fits a name
    run_small : (l : Label) (at : Place) (arguments : Arguments) → Contains (nodes_in (plain_body unit.body)) (EnterAt l at arguments) →
        (run_by w activities i at).number < 2 ^ 64
    run_small l at arguments within =
        let first = first_here l at arguments within in
        subst (λ m. m < 2 ^ 64) (sym first.number_is) (rank_small first.label at first.arguments (first_in at first))

    -- the names of `run`s of different places differ
    pub callees_differ : (l m : Label) (at by : Place) (x y : Arguments) → Contains (nodes_in (plain_body unit.body)) (EnterAt l at x) →
        Contains (nodes_in (plain_body unit.body)) (EnterAt m by y) → (at ≡ by → ⊥) →
        bytes_eq (callee_name (run_by w activities i at)) (callee_name (run_by w activities i by)) ≡ false
    callees_differ l m at by x y one two differ =
        let first = first_here l at x one in
        let second = first_here m by y two in
        callees_apart (run_by w activities i at) (run_by w activities i by) (run_small l at x one) (run_small m by y two)
        (λ same. differ (ap place_of_node (ranks_tell (EnterAt first.label at first.arguments) (EnterAt second.label by second.arguments)
        (first_in at first) (first_in by second) (sym first.number_is ∙ (same ∙ second.number_is)))))
