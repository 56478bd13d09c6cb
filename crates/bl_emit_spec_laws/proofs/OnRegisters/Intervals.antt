-- The C that asks for one of several numbers of a counter, which follow one another, by the first and the last of them; and any guard.
use Rattle.std.proofs.Common.{◌≡◌, ℕ, suc, ◌≤◌, ◌<◌, pos, Bool, true, false, ◌&&◌, ◌||◌, List, [], ◌∷◌, Option}
use Rattle.std.proofs.Common.{None, Some, refl, sym, ap, ap₂}
use Rattle.std.proofs.Common.{◌∙◌, arith, subst}
use Rattle.std.proofs.lemmas.Bool.{eq-eqb, eqb-true, le-leb, leb-false, leb-true}
use Rattle.std.specs.List.{list_all, list_any}
use Rattle.std.specs.Prelude.{nat_eq, nat_le, option_map}
use Rattle.std.proofs.lemmas.Bool.{and_from, and_parts}
use Rattle.bl_tree.proofs.Basics.{or_false, true_not_false}
use Rattle.bl_tree.specs.Numbers.{number_of}
use Rattle.bl_tree.specs.Scalar.{in_range}
use Rattle.bl_tree.specs.declared.scalar.Op.TheVariants.{Ge, Le}
use Rattle.bl_graph_nodes.specs.Nodes.{Node}
use Rattle.bl_machine.specs.declared.slots.Slot.{Slot}
use Rattle.bl_ctext_semantics.specs.Memory.{CValue, Memory, scalar, scalar_number}
use Rattle.bl_ctext_semantics.specs.Meaning.{Counted, Scope}
use Rattle.bl_emit_acts.specs.Expressions.{hidden}
use Rattle.bl_emit_acts.specs.Trees.{c_read, c_two}
use Rattle.bl_machine_pass.specs.Registers.{Registers, are_ended, due_by, is_at}
use Rattle.bl_machine_pass.specs.Transitions.{Condition}
use Rattle.bl_machine_pass.specs.Transitions.{Ended, Flagged, Rested, RestedIn}
use Rattle.bl_emit_spec.specs.Blocks.{ActivityView, counter_type, counter_value, ends_test, entered_by, greatest_value, guard_of, is_greatest, last_value}
use Rattle.bl_emit_spec.specs.Blocks.{rested_between, rested_in, rested_to, rested_within}
use Rattle.bl_emit_spec.specs.Names.{flag_place, rested_place, with_word}
use Rattle.bl_emit_acts_laws_simulation.proofs.Evaluated.{literal-value}
use Rattle.bl_emit_acts_laws_simulation.proofs.Hiding.{hidden_gives}
use Rattle.bl_emit_spec_laws.specs.Registers.Laws.{RestsWithin, WordsAgree, are_in_a_row, asks_its_own, fits_counter, follow_on, has_age, has_left, is_left}
use Rattle.bl_emit_spec_laws.specs.Registers.Registers.{Registered, RegistersEncoded}
use Rattle.bl_emit_spec_laws.proofs.OnRegisters.Guards.{Shows, aged_shows, and_shows, ends_show, flag_shows, literal_gives, no_less_shows}
use Rattle.bl_emit_spec_laws.proofs.OnRegisters.Guards.{no_more_shows, or_shows, rested_gives, rested_shows, since_shows, truth_shows}
use Rattle.bl_emit_spec_laws.proofs.OnRegisters.Numbers.{gives}
use Rattle.bl_ctree_laws.proofs.Surfaces.{bool_same}

-- ---- numbers in a row

-- the last value of a row is no less than the first
last_least : (k v : ℕ) (rest : List Slot) → follow_on k (suc v) rest ≡ true → v ≤ last_value v rest
last_least k v [] h = omega arith
last_least k v (slot ∷ rest) h =
    let found = and_parts (nat_eq slot.counter k) (nat_eq slot.value (suc v) && follow_on k (suc (suc v)) rest) h in
    let more = and_parts (nat_eq slot.value (suc v)) (follow_on k (suc (suc v)) rest) found.1 in
    let is : slot.value ≡ suc v = eqb-true slot.value (suc v) more.0 in
    let least : suc v ≤ last_value (suc v) rest = last_least k (suc v) rest more.1 in
    subst (λ n. v ≤ last_value n rest) (sym is) (omega (arith, least))

-- a number is the first of a row or one of the others where it lies between the first and the last
step_in : (v w l : ℕ) → v ≤ l → (nat_eq w v || (nat_le (suc v) w && nat_le w l)) ≡ (nat_le v w && nat_le w l)
step_in v w l few =
    bool_same (nat_eq w v || (nat_le (suc v) w && nat_le w l)) (nat_le v w && nat_le w l) (there (nat_eq w v) refl) (back (nat_eq w v) refl)
  where
    there : (same : Bool) → nat_eq w v ≡ same → (same || (nat_le (suc v) w && nat_le w l)) ≡ true → (nat_le v w && nat_le w l) ≡ true
    there true is h =
        let equal : w ≡ v = eqb-true w v is in
        and_from (nat_le v w) (nat_le w l) (le-leb v w (omega (arith, equal))) (le-leb w l (omega (arith, equal, few)))
    there false is h =
        let found = and_parts (nat_le (suc v) w) (nat_le w l) h in
        let less : suc v ≤ w = leb-true (suc v) w found.0 in
        and_from (nat_le v w) (nat_le w l) (le-leb v w (omega (arith, less))) found.1

    less_than : nat_eq w v ≡ false → v ≤ w → (same : Bool) → nat_le (suc v) w ≡ same → same ≡ true
    less_than is h true less = refl
    less_than is h false less =
        absurd (true_not_false (sym (eq-eqb w v (let more : w < suc v = leb-false (suc v) w less in omega (arith, h, more))) ∙ is))

    back : (same : Bool) → nat_eq w v ≡ same → (nat_le v w && nat_le w l) ≡ true → (same || (nat_le (suc v) w && nat_le w l)) ≡ true
    back true is h = refl
    back false is h =
        let found = and_parts (nat_le v w) (nat_le w l) h in
        and_from (nat_le (suc v) w) (nat_le w l) (less_than is (leb-true v w found.0) (nat_le (suc v) w) refl) found.1

alone_in : (v w : ℕ) → (nat_eq w v || false) ≡ (nat_le v w && nat_le w v)
alone_in v w =
    bool_same (nat_eq w v || false) (nat_le v w && nat_le w v)
    (λ h. let equal : w ≡ v = eqb-true w v (sym (or_false (nat_eq w v)) ∙ h) in
    and_from (nat_le v w) (nat_le w v) (le-leb v w (omega (arith, equal))) (le-leb w v (omega (arith, equal))))
    (λ h. let found = and_parts (nat_le v w) (nat_le w v) h in
    let less : v ≤ w = leb-true v w found.0 in
    let more : w ≤ v = leb-true w v found.1 in
    or_false (nat_eq w v) ∙ eq-eqb w v (omega (arith, less, more)))

-- so a counter holds one of the values of a row where it holds one between the first and the last
row_in : (counters : ℕ → ℕ) (k v : ℕ) (rest : List Slot) → follow_on k (suc v) rest ≡ true →
    (nat_eq (counters k) v || list_any (is_at counters) rest) ≡ (nat_le v (counters k) && nat_le (counters k) (last_value v rest))
row_in counters k v [] h = alone_in v (counters k)
row_in counters k v (slot ∷ rest) h =
    let found = and_parts (nat_eq slot.counter k) (nat_eq slot.value (suc v) && follow_on k (suc (suc v)) rest) h in
    let more = and_parts (nat_eq slot.value (suc v)) (follow_on k (suc (suc v)) rest) found.1 in
    let is : slot.value ≡ suc v = eqb-true slot.value (suc v) more.0 in
    let least : suc v ≤ last_value (suc v) rest = last_least k (suc v) rest more.1 in
    ap₂ (λ j n. nat_eq (counters k) v || (nat_eq (counters j) n || list_any (is_at counters) rest)) (eqb-true slot.counter k found.0) is
    ∙ (ap (λ b. nat_eq (counters k) v || b) (row_in counters k (suc v) rest more.1)
    ∙ (step_in v (counters k) (last_value (suc v) rest) (omega (arith, least))
    ∙ ap (λ n. nat_le v (counters k) && nat_le (counters k) (last_value n rest)) (sym is)))

-- ---- values in their types

-- the value of the last of a row is a number of the counter's type, where all of them are
last_fits : (view : ActivityView) (k v : ℕ) (rest : List Slot) → in_range (counter_type view.sizes k) (pos v) ≡ true →
    list_all (fits_counter view.sizes) rest ≡ true → follow_on k (suc v) rest ≡ true →
    in_range (counter_type view.sizes k) (pos (last_value v rest)) ≡ true
last_fits view k v [] fits all h = fits
last_fits view k v (slot ∷ rest) fits all h =
    let found = and_parts (nat_eq slot.counter k) (nat_eq slot.value (suc v) && follow_on k (suc (suc v)) rest) h in
    let more = and_parts (nat_eq slot.value (suc v)) (follow_on k (suc (suc v)) rest) found.1 in
    let is : slot.value ≡ suc v = eqb-true slot.value (suc v) more.0 in
    let within = and_parts (fits_counter view.sizes slot) (list_all (fits_counter view.sizes) rest) all in
    last_fits view k slot.value rest
    (ap (λ k. in_range (counter_type view.sizes k) (pos slot.value)) (sym (eqb-true slot.counter k found.0)) ∙ within.0) within.1
    (ap (λ n. follow_on k (suc n) rest) is ∙ more.1)

module _ (scope : Scope) (here : Memory) (view : ActivityView) (has : Registered) (r : Registers) (hold : RegistersEncoded has scope r here)
    (within : RestsWithin view.sizes r) where
  -- a hidden value gives its number
  value_hidden : (k v : ℕ) → in_range (counter_type view.sizes k) (pos v) ≡ true →
      gives scope here (hidden (counter_type view.sizes k) (counter_value view.sizes k v)) ≡ Some (pos v)
  value_hidden k v fits =
      let s = counter_type view.sizes k in
      ap (option_map scalar_number)
      (hidden_gives scope here s (counter_value view.sizes k v) (scalar (pos v))
      (ap (λ (c : Counted CValue). c.answer) (literal-value scope here s (pos v))) fits)

  between_shows : (k least greatest : ℕ) → has.copied k ≡ true → in_range (counter_type view.sizes k) (pos greatest) ≡ true →
      Shows scope here (rested_between view k least greatest) (nat_le least (r.rested k) && nat_le (r.rested k) greatest)
  between_shows k least greatest its last =
      let stands = rested_gives scope here view has r hold k its in
      let most = hidden (counter_type view.sizes k) (counter_value view.sizes k greatest) in
      and_shows scope here (c_two Ge (c_read (rested_place k)) (counter_value view.sizes k least)) (c_two Le (c_read (rested_place k)) most)
      (nat_le least (r.rested k)) (nat_le (r.rested k) greatest)
      (no_less_shows scope here (c_read (rested_place k)) (counter_value view.sizes k least) (r.rested k) least stands
      (literal_gives scope here _ (pos least)))
      (no_more_shows scope here (c_read (rested_place k)) most (r.rested k) greatest stands (value_hidden k greatest last))

  -- a comparison with the greatest value says nothing
  no_greater : (a : Bool) (w most last : ℕ) → w ≤ most → nat_le most last ≡ true → a ≡ (a && nat_le w last)
  no_greater false w most last few is = refl
  no_greater true w most last few is = let less : most ≤ last = leb-true most last is in sym (le-leb w last (omega (arith, few, less)))

  within_shows : (k least greatest : ℕ) → has.copied k ≡ true → in_range (counter_type view.sizes k) (pos greatest) ≡ true →
      Shows scope here (rested_within view k least greatest) (nat_le least (r.rested k) && nat_le (r.rested k) greatest)
  within_shows k least greatest its last = by (is_greatest view.sizes k greatest) refl
    where
      by : (top : Bool) → is_greatest view.sizes k greatest ≡ top →
          Shows scope here (rested_to view k least greatest top) (nat_le least (r.rested k) && nat_le (r.rested k) greatest)
      by true is =
          since_shows scope here view has r hold k least its
          ∙ ap (λ b. Some (number_of b))
          (no_greater (nat_le least (r.rested k)) (r.rested k) (greatest_value view.sizes k) greatest (within k) is)
      by false is = between_shows k least greatest its last

  row_shows : (slots : List Slot) → list_all (λ slot. has.copied slot.counter) slots ≡ true → list_all (fits_counter view.sizes) slots ≡ true →
      are_in_a_row slots ≡ true → Shows scope here (rested_in view slots) (list_any (is_at r.rested) slots)
  row_shows [] its fits row = truth_shows scope here false
  row_shows (slot ∷ []) its fits row =
      let found = and_parts (has.copied slot.counter) true its in
      rested_shows scope here view has r hold within slot found.0 ∙ ap (λ b. Some (number_of b)) (sym (or_false (is_at r.rested slot)))
  row_shows (slot ∷ more ∷ rest) its fits row =
      let found = and_parts (has.copied slot.counter) (list_all (λ slot. has.copied slot.counter) (more ∷ rest)) its in
      let fit = and_parts (fits_counter view.sizes slot) (list_all (fits_counter view.sizes) (more ∷ rest)) fits in
      within_shows slot.counter slot.value (last_value slot.value (more ∷ rest)) found.0
      (last_fits view slot.counter slot.value (more ∷ rest) fit.0 fit.1 row)
      ∙ ap (λ b. Some (number_of b)) (sym (row_in r.rested slot.counter slot.value (more ∷ rest) row))

  -- ---- guards

  guard_shows : WordsAgree view has → (n : Node) (condition : Condition) → asks_its_own view has n condition ≡ true →
      Shows scope here (guard_of view n condition) (due_by view.number r n condition)
  guard_shows words n Flagged its = flag_shows scope here view has r hold words (view.number n) its
  guard_shows words n (Rested slot) its = rested_shows scope here view has r hold within slot its
  guard_shows words n (RestedIn slots) its =
      let found = and_parts (list_all (λ slot. has.copied slot.counter) slots) (list_all (fits_counter view.sizes) slots && are_in_a_row slots) its in
      let more = and_parts (list_all (fits_counter view.sizes) slots) (are_in_a_row slots) found.1 in
      row_shows slots found.0 more.0 more.1
  guard_shows words n (Ended age needed) its =
      let found = and_parts (has_age view.number has age) (list_all (λ slot. has.counters slot.counter) needed.slots) its in
      aged_shows scope here view has r hold words age (ends_test view needed) (are_ended r.counters needed) found.0
      (ends_show scope here view has r hold needed found.1)

  -- where a block leaves its call, its flag is asked for too
  pub guards_show : WordsAgree view has → (before : Option ℕ) (n : Node) (condition : Condition) → has_left has before ≡ true →
      asks_its_own view has n condition ≡ true →
      Shows scope here (entered_by view.word before (guard_of view n condition)) (is_left r before || due_by view.number r n condition)
  guards_show words None n condition left its = guard_shows words n condition its
  guards_show words (Some k) n condition left its =
      or_shows scope here (c_read (flag_place (with_word view.word k))) (guard_of view n condition) (r.flags k) (due_by view.number r n condition)
      (flag_shows scope here view has r hold words k left) (guard_shows words n condition its)
