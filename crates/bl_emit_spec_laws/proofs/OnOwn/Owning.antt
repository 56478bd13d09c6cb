-- What fits is told by registers of the activity.
use Rattle.std.proofs.Common.{◌≡◌, ◌⊎◌, inl, inr, ℕ, ◌+◌, ◌<◌, ◌≤◌, ◌^◌, Bool, true, false, ◌&&◌, List, []}
use Rattle.std.proofs.Common.{Contains, Some, nat_eq, refl, sym, ap}
use Rattle.std.proofs.Common.{subst, ◌∙◌, arith, length, pos, unwrap_or, eq-eqb, eqb-true, lt-ltb, if◌then◌else◌}
use Rattle.std.proofs.lemmas.Bool.{le-leb, leb-true}
use Rattle.std.proofs.lemmas.Option.{slice_get_within}
use Rattle.std.specs.List.{list_all, list_any}
use Rattle.std.specs.Prelude.{nat_le, slice_get}
use Rattle.std.proofs.lemmas.Bool.{and_from}
use Rattle.bl_tree.proofs.Basics.{any_from, contains_at, index_of}
use Rattle.bl_tree.specs.declared.scalar.Scalar.{Scalar}
use Rattle.bl_tree.specs.declared.scalar.Scalar.TheVariants.{Nat}
use Rattle.bl_tree.specs.declared.scalar.Width.TheVariants.{W8, W16, W32}
use Rattle.bl_tree.specs.Scalar.{in_range}
use Rattle.bl_graph_nodes.specs.Nodes.{Node}
use Rattle.bl_graph.specs.Edges.{Entry}
use Rattle.bl_graph_nodes.specs.Plain.{Block, Done, Then, plain_body}
use Rattle.bl_machine.specs.declared.slots.Slot.{Slot}
use Rattle.bl_machine.specs.Layout.{places_in}
use Rattle.bl_machine.specs.Slots.{Counters}
use Rattle.bl_machine_pass.specs.SlotLayout.{EndOf, RestOf, Spot, slot_at, spots_in}
use Rattle.bl_machine_pass.specs.Numbered.{no_slot, sizes_of, slots_of}
use Rattle.bl_machine_pass.specs.Transitions.{Age, Change, Condition, Transition, enter, rules, rules_in, rules_of}
use Rattle.bl_machine_pass.specs.Transitions.{ClearsBoth, ClearsCounter, Ended, EndsWhen, Finishes, Flagged, IsAny, IsNew, IsOld, Rested, RestedIn, SetsCounter, SetsFlag, SetsMark}
use Rattle.bl_machine_pass_laws.specs.Flags.{MayFlag}
use Rattle.bl_machine_pass_laws.specs.Spots.{SpotsDiffer}
use Rattle.bl_machine_transitions_laws.proofs.Agreeing.{each_agrees}
use Rattle.bl_machine_pass_laws.proofs.OnSlots.Finding.{number_at}
use Rattle.bl_emit_spec.specs.Activities.{Activity, activity_view, first_rules, is_flagged, reads_counter, rules_at}
use Rattle.bl_emit_spec.specs.Blocks.{Sizes, type_for, unit_may_end}
use Rattle.bl_emit_spec_laws.specs.Registers.Laws.{are_in_a_row, asks_its_own, changes_its_own, ends_body, fits_counter, has_age}
use Rattle.bl_emit_spec_laws.specs.Calls.Built.{asks_flag, registered, sets_mark}
use Rattle.bl_emit_spec_laws.specs.Own.{PlaceCounts}
use Rattle.bl_emit_spec_laws.proofs.OnOwn.Counting.{list_counts, size_few}
use Rattle.bl_emit_spec_laws.proofs.OnOwn.Endless.{ends_of_unit}
use Rattle.bl_emit_spec_laws.proofs.OnOwn.Fitting.{AgeFits, ChangeFits, ConditionFits, HasFlag, HasMark, IsCounter, RowsIn, RuleFits, entry_flag, rules_in_fit}
use Rattle.bl_emit_spec_laws.proofs.OnOwn.InRow.{rows_in, spots_in_many, there_at}
use Rattle.bl_emit_spec_laws.proofs.OnOwn.Members.{Every, all_true, any_found, every_at, every_from, every_left}
use Rattle.bl_emit_spec_laws.proofs.OnWithin.Changing.{ChangeWithin}

-- ---- numbers of types

small : (b : Bool) (v n : ℕ) → (b ≡ true → v ≤ n) → (t u : Scalar) → (v ≤ n → in_range t (pos v) ≡ true) →
    in_range u (pos v) ≡ true →
    in_range (if b then t else u) (pos v) ≡ true
small true v n less t u first second = first (less refl)
small false v n less t u first second = second

in_w8 : (v : ℕ) → v ≤ 255 → in_range (Nat W8) (pos v) ≡ true
in_w8 v less = and_from (nat_le 0 v) (nat_le v 255) (le-leb 0 v (omega arith)) (le-leb v 255 less)

in_w16 : (v : ℕ) → v ≤ 65_535 → in_range (Nat W16) (pos v) ≡ true
in_w16 v less = and_from (nat_le 0 v) (nat_le v 65_535) (le-leb 0 v (omega arith)) (le-leb v 65_535 less)

in_w32 : (v : ℕ) → v < 2 ^ 32 → in_range (Nat W32) (pos v) ≡ true
in_w32 v less = and_from (nat_le 0 v) (nat_le v 4_294_967_295) (le-leb 0 v (omega arith)) (le-leb v 4_294_967_295 (omega (arith, less)))

-- a value of a counter is a number of its type
in_type : (size v : ℕ) → v ≤ size → v < 2 ^ 32 → in_range (type_for size) (pos v) ≡ true
in_type size v within few =
    small (nat_le size 255) v 255 (λ e. (let most = leb-true size 255 e in omega (arith, most, within))) (Nat W8)
    (if nat_le size 65_535 then Nat W16 else Nat W32) (in_w8 v)
    (small (nat_le size 65_535) v 65_535 (λ e. (let most = leb-true size 65_535 e in omega (arith, most, within))) (Nat W16) (Nat W32) (in_w16 v)
    (in_w32 v few))

-- ---- an activity whose numbers stand in a list

module _ (a : Activity) (list : List Slot) (spots : SpotsDiffer) (slots_are : a.slots ≡ slots_of (plain_body a.unit.body) list)
    (sizes_are : a.sizes ≡ sizes_of list) (counters : Counters (plain_body a.unit.body) list)
  where
    abbrev body : Block
    body = plain_body a.unit.body

    -- a number of the list
    abbrev pub Listed : Slot → Type 0
    Listed slot = Contains list slot

    by_labels : (p : Spot) (i : ℕ) → slice_get (spots_in body) i ≡ Some p → slot_at (slots_of body list) p
        ≡ unwrap_or (slice_get list i) no_slot
    by_labels (RestOf l) i is = number_at list (spots_in body) i (RestOf l) (spots a.unit.body []) is
    by_labels (EndOf l k) i is = number_at list (spots_in body) i (EndOf l k) (spots a.unit.body []) is

    spot_within : (i : ℕ) (p : Spot) → slice_get (spots_in body) i ≡ Some p → i < length list
    spot_within i p is =
        let below = slice_get_within (spots_in body) i p is in
        let many = spots_in_many body in let each = counters.one_each in omega arith

    by_slots : (p : Spot) (i : ℕ) → slice_get (spots_in body) i ≡ Some p → slot_at a.slots p ≡ unwrap_or (slice_get list i) no_slot
    by_slots p i is = ap (λ slots. slot_at slots p) slots_are ∙ by_labels p i is

    spot_listed : (p : Spot) → Contains (spots_in body) p → Listed (slot_at a.slots p)
    spot_listed p there =
        let at = index_of (spots_in body) p there in
        contains_at list at.0 (slot_at a.slots p)
        (there_at list at.0 (spot_within at.0 p at.1) ∙ ap Some (sym (by_slots p at.0 at.1)))

    -- ---- counters and values

    listed_counts : (slot : Slot) → Listed slot → PlaceCounts a.sizes slot
    listed_counts slot there =
        let at = index_of list slot there in
        subst (λ sizes. PlaceCounts sizes slot) (sym sizes_are) (list_counts list counters.values at.0 slot at.1)

    pub place_counts : (p : Spot) → Contains (spots_in body) p → PlaceCounts a.sizes (slot_at a.slots p)
    place_counts p there = listed_counts (slot_at a.slots p) (spot_listed p there)

    listed_fits : places_in body < 2 ^ 32 → (slot : Slot) → Listed slot → fits_counter a.sizes slot ≡ true
    listed_fits few slot there =
        let at = index_of list slot there in
        let counts = listed_counts slot there in
        let most : unwrap_or (slice_get a.sizes slot.counter) 0 ≤ length list =
        subst (λ (sizes : Sizes). unwrap_or (slice_get sizes slot.counter) 0 ≤ length list) (sym sizes_are) (size_few list at.0 slot at.1) in
        let each = counters.one_each in
        let high = counts.high in
        in_type (unwrap_or (slice_get a.sizes slot.counter) 0) slot.value high (omega (arith, few, most, high, each))

    -- ---- rules

    abbrev all : List Transition
    all = rules_at a

    rows : RowsIn a.slots body
    rows =
        rows_in list counters.values a.slots 0 0 body (let each = counters.one_each in omega arith)
        (each_agrees (slot_at a.slots) (λ i. unwrap_or (slice_get list i) no_slot) (spots_in body) 0
        (λ i p is. (let there : i ≡ 0 + i = omega arith in by_slots p i is ∙ ap (λ k. unwrap_or (slice_get list k) no_slot) there)))
        counters.rest

    rules_fit : Every (RuleFits a.slots all Listed) all
    rules_fit =
        rules_in_fit a.slots all Listed body Finishes (every_from (Contains all) all (λ rule there. there))
        (every_from (λ p. Listed (slot_at a.slots p)) (spots_in body) spot_listed) rows tt

    pub rule_fits : (rule : Transition) → Contains all rule → RuleFits a.slots all Listed rule
    rule_fits rule there = every_at (RuleFits a.slots all Listed) all rule rules_fit there

    -- ---- registers

    abbrev number : Node → ℕ
    number = (activity_view a).number

    pub flag_on : (n : Node) → (flag : HasFlag a.slots all Listed n) → Contains (first_rules a) flag.rule → (registered a).flags (number n) ≡ true
    flag_on n flag first =
        any_from (asks_flag number (number n)) (first_rules a) flag.rule first
        (and_from (is_flagged flag.rule.condition) (nat_eq (number n) (number flag.rule.node)) (ap is_flagged flag.condition)
        (eq-eqb (number n) (number flag.rule.node) (ap number (sym flag.is))))

    mark_on : (n : Node) → HasMark a.slots all Listed n → (registered a).marks (number n) ≡ true
    mark_on n mark =
        any_from (λ (rule : Transition). list_any (sets_mark number (number n)) rule.on_true) all mark.rule mark.there
        (any_from (sets_mark number (number n)) mark.rule.on_true (SetsMark n) mark.marks (eq-eqb (number n) (number n) refl))

    slot_on : (slot : Slot) → Listed slot → (registered a).counters slot.counter ≡ true
    slot_on slot there = lt-ltb slot.counter (length a.sizes) (listed_counts slot there).counter

    counter_on : (k : ℕ) → IsCounter a.slots all Listed k → (registered a).counters k ≡ true
    counter_on k counter = subst (λ c. (registered a).counters c ≡ true) counter.is (slot_on counter.slot counter.there)

    -- the nodes that the change may flag stand first in their blocks
    abbrev FlagsFirst : Change → Type 0
    FlagsFirst change = (other : Transition) → MayFlag change other.node → Contains all other → Contains (first_rules a) other

    -- the change ends the body only where the activity may end
    abbrev EndsUnit : Change → Type 0
    EndsUnit change = ends_body change ≡ true → unit_may_end a.unit ≡ true

    change_on : (change : Change) → ChangeFits a.slots all Listed change → FlagsFirst change → EndsUnit change →
        changes_its_own number (registered a) change ≡ true
    change_on (SetsFlag n) fits first ends = flag_on n fits (first fits.rule fits.is fits.there)
    change_on (SetsCounter slot) fits first ends = slot_on slot fits
    change_on (ClearsCounter k) fits first ends = counter_on k fits
    change_on (ClearsBoth k) fits first ends = counter_on k fits
    change_on (SetsMark n) fits first ends = mark_on n fits
    change_on (EndsWhen start surface depth) fits first ends =
        and_from ((registered a).marks (number start)) ((registered a).flags (number surface) && (registered a).flags (number depth))
        (mark_on start fits.0)
        (and_from ((registered a).flags (number surface)) ((registered a).flags (number depth))
        (flag_on surface fits.1 (first fits.1.rule (inl fits.1.is) fits.1.there))
        (flag_on depth fits.2 (first fits.2.rule (inr fits.2.is) fits.2.there)))
    change_on Finishes fits first ends = ends refl

    each_on : (changes : List Change) → Every (ChangeFits a.slots all Listed) changes → ((change : Change) → Contains changes change → FlagsFirst change) →
        ((change : Change) → Contains changes change → EndsUnit change) → list_all (changes_its_own number (registered a)) changes ≡ true
    each_on changes fits first ends =
        all_true (Contains changes) (changes_its_own number (registered a)) changes
        (λ change there. change_on change (every_at (ChangeFits a.slots all Listed) changes change fits there) (first change there) (ends change there))
        (every_from (Contains changes) changes (λ change there. there))

    pub changes_on : (rule : Transition) → Contains all rule →
        ((change : Change) → Contains rule.on_true change ⊎ Contains rule.on_false change → FlagsFirst change) →
        (list_all (changes_its_own number (registered a)) rule.on_true ≡ true) × (list_all (changes_its_own number (registered a)) rule.on_false ≡ true)
    changes_on rule there first =
        let fits = rule_fits rule there in
        let ends = ends_of_unit a.slots a.unit rule in (
          each_on rule.on_true fits.on_true (λ change among. first change (inl among)) (λ change among. ends change there (inl among)),
          each_on rule.on_false fits.on_false (λ change among. first change (inr among)) (λ change among. ends change there (inr among)),
        )

    -- ---- values that counters come to hold

    change_within : (change : Change) → ChangeFits a.slots all Listed change → ChangeWithin a.sizes change
    change_within (SetsFlag n) fits = tt
    change_within (SetsCounter slot) fits = (listed_counts slot fits).high
    change_within (ClearsCounter k) fits = tt
    change_within (ClearsBoth k) fits = tt
    change_within (SetsMark n) fits = tt
    change_within (EndsWhen start surface depth) fits = tt
    change_within Finishes fits = tt

    each_within : (changes : List Change) → Every (ChangeFits a.slots all Listed) changes → Every (ChangeWithin a.sizes) changes
    each_within changes fits =
        every_from (ChangeWithin a.sizes) changes
        (λ change there. change_within change (every_at (ChangeFits a.slots all Listed) changes change fits there))

    pub changes_stay : (rule : Transition) → Contains all rule → Every (ChangeWithin a.sizes) rule.on_true × Every (ChangeWithin a.sizes) rule.on_false
    changes_stay rule there =
        let fits = rule_fits rule there in (each_within rule.on_true fits.on_true, each_within rule.on_false fits.on_false)

    -- ---- what rules ask

    age_on : (age : Age) → AgeFits a.slots all Listed age → has_age number (registered a) age ≡ true
    age_on (IsNew n) fits = mark_on n fits
    age_on (IsOld n) fits = mark_on n fits
    age_on IsAny fits = refl

    -- a counter of which the rule asks what it held is copied
    copied_on : (rule : Transition) (k : ℕ) → Contains all rule → reads_counter k rule.condition ≡ true → (registered a).copied k ≡ true
    copied_on rule k there reads = any_from (λ (other : Transition). reads_counter k other.condition) all rule there reads

    asked_on : places_in body < 2 ^ 32 → (rule : Transition) (condition : Condition) → Contains all rule → Contains (first_rules a) rule →
        rule.condition ≡ condition → ConditionFits a.slots all Listed condition → asks_its_own (activity_view a) (registered a) rule.node condition ≡ true
    asked_on few rule Flagged there first is fits = flag_on rule.node (record { rule = rule; there = there; condition = is; is = refl }) first
    asked_on few rule (Rested slot) there first is fits =
        copied_on rule slot.counter there (ap (reads_counter slot.counter) is ∙ eq-eqb slot.counter slot.counter refl)
    asked_on few rule (RestedIn some) there first is fits =
        and_from (list_all (λ (slot : Slot). (registered a).copied slot.counter) some)
        (list_all (fits_counter a.sizes) some && are_in_a_row some)
        (all_true (Contains some) (λ (slot : Slot). (registered a).copied slot.counter) some
        (λ slot inside. copied_on rule slot.counter there
        (ap (reads_counter slot.counter) is
        ∙ any_from (λ (other : Slot). nat_eq slot.counter other.counter) some slot inside (eq-eqb slot.counter slot.counter refl)))
        (every_from (Contains some) some (λ slot inside. inside)))
        (and_from (list_all (fits_counter a.sizes) some) (are_in_a_row some)
        (all_true Listed (fits_counter a.sizes) some (listed_fits few) fits.0) fits.1)
    asked_on few rule (Ended age needed) there first is fits =
        and_from (has_age number (registered a) age) (list_all (λ (slot : Slot). (registered a).counters slot.counter) needed.slots)
        (age_on age fits.0) (all_true Listed (λ (slot : Slot). (registered a).counters slot.counter) needed.slots slot_on fits.1)

    pub asks_on : places_in body < 2 ^ 32 → (rule : Transition) → Contains all rule → Contains (first_rules a) rule →
        asks_its_own (activity_view a) (registered a) rule.node rule.condition ≡ true
    asks_on few rule there first = asked_on few rule rule.condition there first refl (rule_fits rule there).condition

    -- ---- the entry

    -- the rule of the node at which the body begins, where it begins with a statement
    pub entry_rule : (n : Node) → Entry body n → HasFlag a.slots all Listed n
    entry_rule n begins = by body refl begins
      where
        by : (b : Block) → body ≡ b → Entry b n → HasFlag a.slots all Listed n
        by Done is first = absurd first
        by (Then s rest) is first =
            subst (HasFlag a.slots all Listed) (sym first)
            (entry_flag a.slots all Listed s (enter rest Finishes)
            (every_left (Contains all) (rules_of a.slots s (enter rest Finishes)) (rules_in a.slots rest Finishes)
            (subst (λ (b : Block). Every (Contains all) (rules a.slots b)) is (every_from (Contains all) all (λ rule there. there)))))

    -- ---- copies

    read_below : (k : ℕ) (condition : Condition) → ConditionFits a.slots all Listed condition → reads_counter k condition ≡ true → k < length a.sizes
    read_below k Flagged fits reads = absurd (cc)
    read_below k (Rested slot) fits reads =
        subst (λ c. c < length a.sizes) (sym (eqb-true k slot.counter reads)) (listed_counts slot fits).counter
    read_below k (RestedIn some) fits reads =
        let found = any_found (λ (slot : Slot). nat_eq k slot.counter) some reads in
        subst (λ c. c < length a.sizes) (sym (eqb-true k found.one.counter found.on))
        (listed_counts found.one (every_at Listed some found.one fits.0 found.there)).counter
    read_below k (Ended age needed) fits reads = absurd (cc)

    pub copied_below : (k : ℕ) → (activity_view a).is_read k ≡ true → k < length a.sizes
    copied_below k reads =
        let found = any_found (λ (rule : Transition). reads_counter k rule.condition) all reads in
        read_below k found.one.condition (rule_fits found.one found.there).condition found.on
