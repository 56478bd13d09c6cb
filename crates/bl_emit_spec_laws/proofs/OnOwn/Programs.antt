-- The activities of a program.
use Rattle.std.proofs.Common.{◌≡◌, ℕ, ◌<◌, ◌≤◌, ◌^◌, true, List, Contains, length, refl, sym, ap, subst, ◌∙◌}
use Rattle.std.specs.List.{list_all}
use Rattle.std.specs.Prelude.{IsPermutation}
use Rattle.bl_tree.proofs.Basics.{same_some}
use Rattle.bl_tree.specs.declared.tree.StructDef.{StructDef}
use Rattle.bl_tree.specs.declared.tree.Unit.{Unit as UnitDef}
use Rattle.bl_tree.specs.Reduce.{joined}
use Rattle.bl_tree.specs.Typing.{is_activity}
use Rattle.bl_cause.specs.Activities.{activities as activities_of, graph_position}
use Rattle.bl_cause.proofs.PairLemmas.{each_at, filtered_at}
use Rattle.bl_graph.specs.Edges.{Entry}
use Rattle.bl_graph_nodes.specs.Nodes.{Node, entry, nodes_in}
use Rattle.bl_graph_nodes.specs.Plain.{Block, Plain, Then, plain_body}
use Rattle.bl_machine.specs.declared.machine.Activity.{Activity as InMachine}
use Rattle.bl_machine.specs.Blocks.{Ordered, up_to}
use Rattle.bl_machine.specs.Layout.{places_in}
use Rattle.bl_machine.specs.Machines.{IsActivityOf}
use Rattle.bl_machine.specs.Slots.{Counters}
use Rattle.bl_machine_pass.specs.SlotLayout.{Spot, slot_at, spots_in}
use Rattle.bl_machine_pass.specs.Numbered.{sizes_of, slots_of}
use Rattle.bl_machine_pass.specs.Transitions.{Transition, rules}
use Rattle.bl_machine_pass_laws.specs.Turns.Laws.{StaysPlaced}
use Rattle.bl_machine_pass_laws.specs.Spots.{SpotsDiffer}
use Rattle.bl_emit_spec.specs.Activities.{Activity, activity_view, first_rules, rules_at}
use Rattle.bl_emit_spec_laws.specs.Registers.Laws.{asks_its_own, changes_its_own}
use Rattle.bl_emit_spec_laws.specs.Registers.Registers.{FewRegisters}
use Rattle.bl_emit_spec_laws.specs.Calls.Built.{Activities, last_rules, registered}
use Rattle.bl_emit_spec_laws.specs.Own.{BuiltAt, PlaceCounts}
use Rattle.bl_emit_spec_laws.proofs.OnOwn.Few.{node_few, registers_few}
use Rattle.bl_emit_spec_laws.proofs.OnOwn.Members.{Every}
use Rattle.bl_emit_spec_laws.proofs.OnOwn.Owning.{asks_on, changes_on, changes_stay, copied_below, entry_rule, flag_on, place_counts}
use Rattle.bl_emit_spec_laws.proofs.OnPlaced.Placing.{Laws, entry_first, first_among, flags_first, last_among}
use Rattle.bl_emit_spec_laws.proofs.OnWithin.Changing.{ChangeWithin}

module _ (spots : SpotsDiffer) (structs : List StructDef) (units : List UnitDef) (machine : List InMachine) (activities : Activities) (k : ℕ)
    (unit : UnitDef) (at : BuiltAt structs units machine activities k unit)
  where
    abbrev a : Activity
    a = activities k

    unit_is : a.unit ≡ unit
    unit_is = at.built.unit k unit at.is_there

    record Made : Type 0 where
      one : InMachine
      slots : a.slots ≡ slots_of (plain_body a.unit.body) one.slots
      sizes : a.sizes ≡ sizes_of one.slots
      counters : Counters (plain_body a.unit.body) one.slots
      order : IsPermutation (up_to (length (nodes_in (plain_body a.unit.body)))) a.order
      -- in terms of the unit
      order_is : a.order ≡ joined one.blocks
      blocks_are : a.blocks ≡ one.blocks
      slots_are : a.slots ≡ slots_of (plain_body unit.body) one.slots
      ordered : Ordered (plain_body unit.body) one.blocks

    made : Made
    made =
        let own = each_at IsActivityOf (activities_of units) machine (graph_position units k) unit at.agrees
        (filtered_at (λ it. is_activity it.kind) units k unit at.is_there at.activity) in
        let parts = at.built.made k unit at.is_there at.activity in
        let same : own.0 ≡ parts.one = same_some own.0 parts.one (sym own.1 ∙ parts.is) in
        record {
          one = parts.one;
          slots = parts.slots ∙ ap (λ (u : UnitDef). slots_of (plain_body u.body) parts.one.slots) (sym unit_is);
          sizes = parts.sizes;
          counters = subst (λ (u : UnitDef). Counters (plain_body u.body) parts.one.slots) (sym unit_is)
              (subst (λ (one : InMachine). Counters (plain_body unit.body) one.slots) same own.2.counters);
          order = subst (λ (u : UnitDef). IsPermutation (up_to (length (nodes_in (plain_body u.body)))) a.order) (sym unit_is)
              (subst (λ order. IsPermutation (up_to (length (nodes_in (plain_body unit.body)))) order) (sym parts.order)
              (subst (λ (one : InMachine). Ordered (plain_body unit.body) one.blocks) same own.2.order).all);
          order_is = parts.order;
          blocks_are = parts.blocks;
          slots_are = parts.slots;
          ordered = subst (λ (one : InMachine). Ordered (plain_body unit.body) one.blocks) same own.2.order;
        }

    rule_there : (rule : Transition) → Contains (rules a.slots (plain_body unit.body)) rule → Contains (rules_at a) rule
    rule_there rule there = subst (λ (u : UnitDef). Contains (rules a.slots (plain_body u.body)) rule) (sym unit_is) there

    pub unit_places : (p : Spot) → Contains (spots_in (plain_body unit.body)) p → PlaceCounts a.sizes (slot_at a.slots p)
    unit_places p there =
        place_counts a made.one.slots spots made.slots made.sizes made.counters p
        (subst (λ (u : UnitDef). Contains (spots_in (plain_body u.body)) p) (sym unit_is) there)

    pub unit_copies : (c : ℕ) → (activity_view a).is_read c ≡ true → c < length a.sizes
    unit_copies c reads = copied_below a made.one.slots spots made.slots made.sizes made.counters c reads

    -- ---- first and last nodes of blocks

    unit_rule : (rule : Transition) → Contains (rules_at a) rule → Contains (rules a.slots (plain_body unit.body)) rule
    unit_rule rule there = subst (λ (u : UnitDef). Contains (rules a.slots (plain_body u.body)) rule) unit_is there

    pub unit_changes : Laws → (rule : Transition) → Contains (last_rules a) rule →
        (list_all (changes_its_own (activity_view a).number (registered a)) rule.on_true ≡ true)
        × (list_all (changes_its_own (activity_view a).number (registered a)) rule.on_false ≡ true)
    unit_changes laws rule last =
        changes_on a made.one.slots spots made.slots made.sizes made.counters rule
        (rule_there rule (last_among laws a unit made.one unit_is made.order_is made.blocks_are made.slots_are made.ordered rule last))
        (λ change among other may has.
        flags_first laws a unit made.one unit_is made.order_is made.blocks_are made.slots_are made.ordered rule other change last among may
        (unit_rule other has))

    entry_on : Laws → (n : Node) → Entry (plain_body unit.body) n → (registered a).flags ((activity_view a).number n) ≡ true
    entry_on laws n begins =
        let flag = entry_rule a made.one.slots spots made.slots made.sizes made.counters n
        (subst (λ (u : UnitDef). Entry (plain_body u.body) n) (sym unit_is) begins) in
        flag_on a made.one.slots spots made.slots made.sizes made.counters n flag
        (entry_first laws a unit made.one unit_is made.order_is made.blocks_are made.slots_are made.ordered flag.rule (unit_rule flag.rule flag.there)
        (subst (λ (m : Node). Entry (plain_body unit.body) m) (sym flag.is) begins))

    pub unit_entry : Laws → (s : Plain) (rest : Block) → plain_body unit.body ≡ Then s rest →
        (registered a).flags ((activity_view a).number (entry s)) ≡ true
    unit_entry laws s rest is = entry_on laws (entry s) (subst (λ (body : Block). Entry body (entry s)) (sym is) refl)

    pub unit_within : (rule : Transition) → Contains (rules a.slots (plain_body unit.body)) rule →
        Every (ChangeWithin a.sizes) rule.on_true × Every (ChangeWithin a.sizes) rule.on_false
    unit_within rule there = changes_stay a made.one.slots spots made.slots made.sizes made.counters rule (rule_there rule there)

    pub unit_asks : Laws → places_in (plain_body unit.body) < 2 ^ 32 → (rule : Transition) → Contains (first_rules a) rule →
        asks_its_own (activity_view a) (registered a) rule.node rule.condition ≡ true
    unit_asks laws few rule first =
        asks_on a made.one.slots spots made.slots made.sizes made.counters
        (subst (λ (u : UnitDef). places_in (plain_body u.body) < 2 ^ 32) (sym unit_is) few) rule
        (rule_there rule (first_among laws a unit made.one unit_is made.order_is made.blocks_are made.slots_are made.ordered rule first)) first

    pub unit_few : StaysPlaced → length a.order ≤ 2 ^ 64 → length a.sizes ≤ 2 ^ 64 → FewRegisters (registered a)
    unit_few placed ordered sized =
        registers_few a made.one.slots spots made.slots made.sizes made.counters placed made.order ordered sized

    pub unit_node_few : StaysPlaced → length a.order ≤ 2 ^ 64 → (n : Node) → Contains (nodes_in (plain_body unit.body)) n → (activity_view a).number n < 2 ^ 64
    unit_node_few placed ordered n there =
        node_few a made.one.slots spots made.slots made.sizes made.counters placed made.order ordered n
        (subst (λ (u : UnitDef). Contains (nodes_in (plain_body u.body)) n) (sym unit_is) there)
