-- The numbers of an activity's registers are below those of its nodes and of its counters.
use Rattle.std.proofs.Common.{◌≡◌, ℕ, ◌<◌, ◌≤◌, ◌^◌, true, List, Contains}
use Rattle.std.proofs.Common.{length, nat_eq, refl, sym, ap, subst}
use Rattle.std.proofs.Common.{◌∙◌, arith, eq-eqb, eqb-true}
use Rattle.std.proofs.lemmas.Bool.{ltb-true}
use Rattle.std.proofs.lemmas.List.Sorted.{Contains-permutation}
use Rattle.std.specs.List.{list_any}
use Rattle.std.specs.Prelude.{IsPermutation}
use Rattle.bl_tree.proofs.Basics.{and_second, contains_at, contains_mapped}
use Rattle.bl_graph_nodes.specs.Nodes.{Node, nodes_in}
use Rattle.bl_graph_nodes.specs.Plain.{plain_body}
use Rattle.bl_machine.specs.declared.slots.Slot.{Slot}
use Rattle.bl_machine.specs.Blocks.{up_to}
use Rattle.bl_machine.specs.Slots.{Counters}
use Rattle.bl_machine_pass.specs.Numbered.{position_where, same_node, sizes_of, slots_of}
use Rattle.bl_machine_pass.specs.Transitions.{Change, Transition}
use Rattle.bl_machine_pass.specs.Transitions.{ClearsBoth, ClearsCounter, EndsWhen, Finishes, SetsCounter, SetsFlag, SetsMark}
use Rattle.bl_machine_pass_laws.specs.Turns.Laws.{StaysPlaced}
use Rattle.bl_machine_pass_laws.specs.Spots.{SpotsDiffer}
use Rattle.bl_emit_spec.specs.Activities.{Activity, activity_view, first_rules, first_positions, is_flagged, rules_at}
use Rattle.bl_emit_spec_laws.specs.Registers.Registers.{FewRegisters}
use Rattle.bl_emit_spec_laws.specs.Calls.Built.{asks_flag, registered, sets_mark}
use Rattle.bl_emit_spec_laws.proofs.OnPlaced.Lists.{picked_from}
use Rattle.bl_emit_spec_laws.proofs.OnOwn.Counting.{get_up_to}
use Rattle.bl_emit_spec_laws.proofs.OnOwn.Fitting.{ChangeFits}
use Rattle.bl_emit_spec_laws.proofs.OnOwn.Members.{any_found, every_at, where_within}
use Rattle.bl_emit_spec_laws.proofs.OnOwn.Owning.{Listed, copied_below, rule_fits}
use Rattle.bl_machine_transitions_laws.proofs.Standing.{node_itself}

module _ (a : Activity) (list : List Slot) (spots : SpotsDiffer) (slots_are : a.slots ≡ slots_of (plain_body a.unit.body) list)
    (sizes_are : a.sizes ≡ sizes_of list) (counters : Counters (plain_body a.unit.body) list) (placed : StaysPlaced)
    (order : IsPermutation (up_to (length (nodes_in (plain_body a.unit.body)))) a.order)
  where
    abbrev nodes : List Node
    nodes = nodes_in (plain_body a.unit.body)

    abbrev number : Node → ℕ
    number = (activity_view a).number

    -- the number of a node is one of its order
    number_below : (n : Node) → Contains nodes n → number n < length a.order
    number_below n there =
        let below : position_where (same_node n) nodes < length nodes = where_within (same_node n) nodes n there (node_itself n) in
        where_within (nat_eq (position_where (same_node n) nodes)) a.order (position_where (same_node n) nodes)
        (Contains-permutation (up_to (length nodes)) a.order (position_where (same_node n) nodes) order
        (contains_at (up_to (length nodes)) (position_where (same_node n) nodes) (position_where (same_node n) nodes)
        (get_up_to (length nodes) (position_where (same_node n) nodes) below)))
        (eq-eqb (position_where (same_node n) nodes) (position_where (same_node n) nodes) refl)

    rule_below : (rule : Transition) → Contains (rules_at a) rule → number rule.node < length a.order
    rule_below rule there =
        number_below rule.node
        (subst (λ ns. Contains ns rule.node) (placed.nodes a.slots (plain_body a.unit.body))
        (contains_mapped (λ (one : Transition). one.node) (rules_at a) rule there))

    flag_below : (k : ℕ) → (registered a).flags k ≡ true → k < length a.order
    flag_below k on =
        let found = any_found (asks_flag number k) (first_rules a) on in
        let from = picked_from (rules_at a) (first_positions a.blocks) found.one found.there in
        let same : k ≡ number found.one.node =
        eqb-true k (number found.one.node) (and_second (is_flagged found.one.condition) (nat_eq k (number found.one.node)) found.on) in
        subst (λ n. n < length a.order) (sym same) (rule_below found.one (contains_at (rules_at a) from.0 found.one from.2))

    change_below : (k : ℕ) (change : Change) →
        ChangeFits a.slots (rules_at a) (Listed a list spots slots_are sizes_are counters) change → sets_mark number k change ≡ true →
        k < length a.order
    change_below k (SetsFlag n) fits on = absurd (cc)
    change_below k (SetsCounter slot) fits on = absurd (cc)
    change_below k (ClearsCounter j) fits on = absurd (cc)
    change_below k (ClearsBoth j) fits on = absurd (cc)
    change_below k (SetsMark n) fits on =
        let same : k ≡ number fits.rule.node = eqb-true k (number n) on ∙ ap number (sym fits.is) in
        subst (λ m. m < length a.order) (sym same) (rule_below fits.rule fits.there)
    change_below k (EndsWhen start surface depth) fits on = absurd (cc)
    change_below k Finishes fits on = absurd (cc)

    mark_below : (k : ℕ) → (registered a).marks k ≡ true → k < length a.order
    mark_below k on =
        let found = any_found (λ (rule : Transition). list_any (sets_mark number k) rule.on_true) (rules_at a) on in
        let change = any_found (sets_mark number k) found.one.on_true found.on in
        change_below k change.one
        (every_at (ChangeFits a.slots (rules_at a) (Listed a list spots slots_are sizes_are counters)) found.one.on_true change.one
        (rule_fits a list spots slots_are sizes_are counters found.one found.there).on_true change.there)
        change.on

    pub node_few : length a.order ≤ 2 ^ 64 → (n : Node) → Contains nodes n → number n < 2 ^ 64
    node_few ordered n there = let below = number_below n there in omega (arith, below, ordered)

    pub registers_few : length a.order ≤ 2 ^ 64 → length a.sizes ≤ 2 ^ 64 → FewRegisters (registered a)
    registers_few ordered sized = record {
      counters = λ k on. (let below = ltb-true k (length a.sizes) on in omega (arith, below, sized));
      copied = λ k on. (let below = copied_below a list spots slots_are sizes_are counters k on in omega (arith, below, sized));
      flags = λ k on. (let below = flag_below k on in omega (arith, below, ordered));
      marks = λ k on. (let below = mark_below k on in omega (arith, below, ordered));
    }
