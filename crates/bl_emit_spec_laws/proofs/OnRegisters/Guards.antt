-- The C of a guard has the value of what is asked: flags, numbers, and the ends of branches.
use Rattle.std.proofs.Common.{◌≡◌, ℕ, zero, suc, ◌≤◌, ℤ, pos, Bool, true, false, not, ◌&&◌, ◌||◌, List, [], ◌∷◌, map}
use Rattle.std.proofs.Common.{Option, Some, refl, sym, ap, ap₂, subst}
use Rattle.std.proofs.Common.{◌∙◌, arith}
use Rattle.std.proofs.lemmas.Bool.{eq-eqb, eqb-true, le-leb, leb-true}
use Rattle.std.proofs.lemmas.Bool.Decides.{Decides-int_eq}
use Rattle.std.specs.Cmp.{int_eq_equiv}
use Rattle.std.specs.Ordering.{int_eq}
use Rattle.std.specs.List.{list_all, list_any}
use Rattle.std.specs.Prelude.{length, nat_eq, nat_le, option_and_then, option_map, if◌then◌else◌}
use Rattle.std.proofs.lemmas.Bool.{and_parts}
use Rattle.bl_tree.proofs.Basics.{and_regroup, and_true, or_false, or_regroup, true_not_false}
use Rattle.bl_tree.specs.Numbers.{checked_of, checked_one_of, is_one, number_of}
use Rattle.bl_tree.specs.declared.c.CExpr.{CExpr}
use Rattle.bl_tree.specs.declared.scalar.Op.{Op}
use Rattle.bl_tree.specs.declared.scalar.Op.TheVariants.{And, Eq, Ge, Le, Ne, Not, Or}
use Rattle.bl_tree.specs.declared.scalar.Scalar.{Scalar}
use Rattle.bl_tree.specs.declared.scalar.Scalar.TheVariants.{Bool as OfBool}
use Rattle.bl_machine.specs.declared.slots.Slot.{Slot}
use Rattle.bl_ctext_semantics.specs.Memory.{CValue, Memory, scalar_number}
use Rattle.bl_ctext_semantics.specs.Meaning.{Counted, Scope}
use Rattle.bl_emit_acts.specs.Trees.{c_literal, c_not, c_read, c_two}
use Rattle.bl_emit_functions.specs.Trees.{c_truth}
use Rattle.bl_machine_pass.specs.Registers.{Registers, are_ended, is_aged, is_at}
use Rattle.bl_machine_pass.specs.Transitions.{Age, Needed}
use Rattle.bl_machine_pass.specs.Transitions.{IsAny, IsNew, IsOld}
use Rattle.bl_emit_spec.specs.Blocks.{ActivityView, aged_test, at_slot, counter_value, ends_test, greatest_value, in_pairs, in_tree, is_greatest, rested_at, rested_by}
use Rattle.bl_emit_spec.specs.Blocks.{node_word, rested_from, rested_since}
use Rattle.bl_emit_spec.specs.Names.{counter_place, flag_place, mark_place, rested_name, rested_place, with_word}
use Rattle.bl_emit_spec_laws.specs.Registers.Laws.{RestsWithin, WordsAgree, has_age}
use Rattle.bl_emit_spec_laws.specs.Registers.Registers.{Before, Counter, Flag, Mark, Registered, RegistersEncoded, register_at}
use Rattle.bl_emit_spec_laws.proofs.OnRegisters.Evaluated.{literal-value}
use Rattle.bl_emit_spec_laws.proofs.OnRegisters.Numbers.{and-number, compare-number, gives, not-number, or-number}
use Rattle.bl_emit_spec_laws.proofs.OnRegisters.Setting.{counter_answer, flag_answer, local_answer, mark_answer, read_answer}

-- ---- truths, two by two

-- all truths in one
abbrev pub reduced : (Bool → Bool → Bool) → Bool → List Bool → Bool
reduced f u [] = u
reduced f u (a ∷ rest) = f a (reduced f u rest)

abbrev paired : (Bool → Bool → Bool) → List Bool → List Bool
paired f [] = []
paired f (a ∷ []) = a ∷ []
paired f (a ∷ b ∷ rest) = f a b ∷ paired f rest

paired_same : (f : Bool → Bool → Bool) (u : Bool) → ((a b c : Bool) → f a (f b c) ≡ f (f a b) c) → (bs : List Bool) →
    reduced f u (paired f bs) ≡ reduced f u bs
paired_same f u assoc [] = refl
paired_same f u assoc (a ∷ []) = refl
paired_same f u assoc (a ∷ b ∷ rest) = ap (f (f a b)) (paired_same f u assoc rest) ∙ sym (assoc a b (reduced f u rest))

pairs_shorter : (op : Op) (es : List CExpr) → length (in_pairs op es) ≤ length es
pairs_shorter op [] = omega arith
pairs_shorter op (a ∷ []) = omega arith
pairs_shorter op (a ∷ b ∷ rest) = let more : length (in_pairs op rest) ≤ length rest = pairs_shorter op rest in omega arith

all_reduced : (test : Slot → Bool) (slots : List Slot) → reduced (λ a b. a && b) true (map test slots) ≡ list_all test slots
all_reduced test [] = refl
all_reduced test (slot ∷ rest) = ap (λ b. test slot && b) (all_reduced test rest)

any_reduced : (test : Slot → Bool) (slots : List Slot) → reduced (λ a b. a || b) false (map test slots) ≡ list_any test slots
any_reduced test [] = refl
any_reduced test (slot ∷ rest) = ap (λ b. test slot || b) (any_reduced test rest)

-- ---- the test of two numbers

pos-inj : (k l : ℕ) → pos k ≡ pos l → k ≡ l
pos-inj k l h = cc

same_test : (k l : ℕ) → int_eq (pos k) (pos l) ≡ nat_eq k l
same_test k l = by (int_eq (pos k) (pos l)) (nat_eq k l) refl refl
  where
    by : (a b : Bool) → int_eq (pos k) (pos l) ≡ a → nat_eq k l ≡ b → a ≡ b
    by true true h i = refl
    by false false h i = refl
    by true false h i = absurd (true_not_false (sym (eq-eqb k l (pos-inj k l ((Decides-int_eq (pos k) (pos l)).0 h))) ∙ i))
    by false true h i =
        absurd (true_not_false (sym (int_eq_equiv.refl (pos k)) ∙ (ap (λ n. int_eq (pos k) (pos n)) (eqb-true k l i) ∙ h)))

no_zero : (w : ℕ) (same : Bool) → nat_eq (suc w) 0 ≡ same → nat_eq (suc w) 0 ≡ false
no_zero w false is = is
no_zero w true is = absurd (let none : suc w ≡ 0 = eqb-true (suc w) 0 is in omega (arith, none))

-- what isn't 0 is at least 1
some_value : (w v : ℕ) → v ≡ 1 → not (nat_eq w 0) ≡ nat_le v w
some_value w v is = subst (λ v. not (nat_eq w 0) ≡ nat_le v w) (sym is) (by w)
  where
    by : (w : ℕ) → not (nat_eq w 0) ≡ nat_le 1 w
    by zero = refl
    by (suc w) = ap not (no_zero w (nat_eq (suc w) 0) refl) ∙ sym (le-leb 1 (suc w) (omega arith))

-- what is at most a number is that number where it is no less
greatest_value_is : (w v most : ℕ) → most ≤ v → w ≤ most → nat_le v w ≡ nat_eq w v
greatest_value_is w v most last within = by (nat_eq w v) refl
  where
    less : nat_eq w v ≡ false → (more : Bool) → nat_le v w ≡ more → more ≡ false
    less is false more = refl
    less is true more = let above : v ≤ w = leb-true v w more in absurd (true_not_false (sym (eq-eqb w v (omega (arith, above, last, within))) ∙ is))

    by : (same : Bool) → nat_eq w v ≡ same → nat_le v w ≡ same
    by true is = let equal : w ≡ v = eqb-true w v is in le-leb v w (omega (arith, equal))
    by false is = less is (nat_le v w) refl

module _ (scope : Scope) (here : Memory) where
  -- an expression has the number of a truth
  abbrev pub Shows : CExpr → Bool → Type 0
  Shows e b = gives scope here e ≡ Some (number_of b)

  pub literal_gives : (ty : Scalar) (n : ℤ) → gives scope here (c_literal ty n) ≡ Some n
  literal_gives ty n = ap (λ (c : Counted CValue). option_map scalar_number c.answer) (literal-value scope here ty n)

  pub truth_shows : (b : Bool) → Shows (c_truth b) b
  truth_shows true = literal_gives OfBool (pos 1)
  truth_shows false = literal_gives OfBool (pos 0)

  pub and_shows : (e f : CExpr) (a b : Bool) → Shows e a → Shows f b → Shows (c_two And e f) (a && b)
  and_shows e f a b first second =
      and-number scope here e f
      ∙ (ap₂ (λ (x y : Option ℤ). option_and_then (λ x. if is_one x then y else Some (pos 0)) x) first second ∙ by a)
    where
      by : (a : Bool) → (if is_one (number_of a) then Some (number_of b) else Some (pos 0)) ≡ Some (number_of (a && b))
      by true = refl
      by false = refl

  pub or_shows : (e f : CExpr) (a b : Bool) → Shows e a → Shows f b → Shows (c_two Or e f) (a || b)
  or_shows e f a b first second =
      or-number scope here e f
      ∙ (ap₂ (λ (x y : Option ℤ). option_and_then (λ x. if is_one x then Some (pos 1) else y) x) first second ∙ by a)
    where
      by : (a : Bool) → (if is_one (number_of a) then Some (pos 1) else Some (number_of b)) ≡ Some (number_of (a || b))
      by true = refl
      by false = refl

  not_shows : (e : CExpr) (a : Bool) → Shows e a → Shows (c_not e) (not a)
  not_shows e a first = not-number scope here e ∙ (ap (option_and_then (checked_one_of Not OfBool)) first ∙ by a)
    where
      by : (a : Bool) → Some (number_of (not (is_one (number_of a)))) ≡ Some (number_of (not a))
      by true = refl
      by false = refl

  pub eq_shows : (e f : CExpr) (k l : ℕ) → gives scope here e ≡ Some (pos k) → gives scope here f ≡ Some (pos l) → Shows (c_two Eq e f) (nat_eq k l)
  eq_shows e f k l first second =
      compare-number scope here Eq e f (λ l r. refl)
      ∙ (ap₂ (λ (x y : Option ℤ). option_and_then (λ x. option_and_then (checked_of Eq OfBool x) y) x) first second
      ∙ ap (λ b. Some (number_of b)) (same_test k l))

  differs_shows : (e f : CExpr) (k l : ℕ) → gives scope here e ≡ Some (pos k) → gives scope here f ≡ Some (pos l) →
      Shows (c_two Ne e f) (not (nat_eq k l))
  differs_shows e f k l first second =
      compare-number scope here Ne e f (λ l r. refl)
      ∙ (ap₂ (λ (x y : Option ℤ). option_and_then (λ x. option_and_then (checked_of Ne OfBool x) y) x) first second
      ∙ ap (λ b. Some (number_of (not b))) (same_test k l))

  pub no_less_shows : (e f : CExpr) (k l : ℕ) → gives scope here e ≡ Some (pos k) → gives scope here f ≡ Some (pos l) →
      Shows (c_two Ge e f) (nat_le l k)
  no_less_shows e f k l first second =
      compare-number scope here Ge e f (λ l r. refl)
      ∙ ap₂ (λ (x y : Option ℤ). option_and_then (λ x. option_and_then (checked_of Ge OfBool x) y) x) first second

  pub no_more_shows : (e f : CExpr) (k l : ℕ) → gives scope here e ≡ Some (pos k) → gives scope here f ≡ Some (pos l) →
      Shows (c_two Le e f) (nat_le k l)
  no_more_shows e f k l first second =
      compare-number scope here Le e f (λ l r. refl)
      ∙ ap₂ (λ (x y : Option ℤ). option_and_then (λ x. option_and_then (checked_of Le OfBool x) y) x) first second

  -- ---- trees of tests

  -- each test has its truth
  abbrev pub AllShow : List CExpr → List Bool → Type 0
  AllShow [] [] = Unit {0}
  AllShow (e ∷ es) (b ∷ bs) = Shows e b × AllShow es bs
  AllShow _ _ = ⊥

  module _ (op : Op) (f : Bool → Bool → Bool) (u : Bool) (assoc : (a b c : Bool) → f a (f b c) ≡ f (f a b) c) (unit : (a : Bool) → f a u ≡ a)
      (two : (d e : CExpr) (a b : Bool) → Shows d a → Shows e b → Shows (c_two op d e) (f a b)) (none : CExpr)
      (empty : Shows none u) where
    pairs_show : (es : List CExpr) (bs : List Bool) → AllShow es bs → AllShow (in_pairs op es) (paired f bs)
    pairs_show [] [] h = tt
    pairs_show (d ∷ []) (a ∷ []) h = h
    pairs_show (d ∷ e ∷ es) (a ∷ b ∷ bs) h = (two d e a b h.0 h.1.0, pairs_show es bs h.1.1)
    pairs_show [] (a ∷ bs) h = absurd h
    pairs_show (d ∷ es) [] h = absurd h
    pairs_show (d ∷ []) (a ∷ b ∷ bs) h = absurd (h.1)
    pairs_show (d ∷ e ∷ es) (a ∷ []) h = absurd (h.1)

    tree_shows : (fuel : ℕ) (es : List CExpr) (bs : List Bool) → length es ≤ suc fuel
        → AllShow es bs → Shows (in_tree none op fuel es) (reduced f u bs)
    tree_shows zero [] [] few h = empty
    tree_shows (suc fuel) [] [] few h = empty
    tree_shows zero (d ∷ []) (a ∷ []) few h = h.0 ∙ ap (λ b. Some (number_of b)) (sym (unit a))
    tree_shows (suc fuel) (d ∷ []) (a ∷ []) few h = h.0 ∙ ap (λ b. Some (number_of b)) (sym (unit a))
    tree_shows zero (d ∷ e ∷ es) (a ∷ b ∷ bs) few h = absurd (omega (arith, few))
    tree_shows (suc fuel) (d ∷ e ∷ es) (a ∷ b ∷ bs) few h =
        let shorter : length (in_pairs op es) ≤ length es = pairs_shorter op es in
        tree_shows fuel (in_pairs op (d ∷ e ∷ es)) (paired f (a ∷ b ∷ bs))
        (omega (arith, few, shorter)) (pairs_show (d ∷ e ∷ es) (a ∷ b ∷ bs) h)
        ∙ ap (λ b. Some (number_of b)) (paired_same f u assoc (a ∷ b ∷ bs))
    tree_shows fuel [] (a ∷ bs) few h = absurd h
    tree_shows fuel (d ∷ es) [] few h = absurd h
    tree_shows fuel (d ∷ []) (a ∷ b ∷ bs) few h = absurd (h.1)
    tree_shows fuel (d ∷ e ∷ es) (a ∷ []) few h = absurd (h.1)

  -- ---- what registers show

  module _ (view : ActivityView) (has : Registered) (r : Registers) (hold : RegistersEncoded has scope r here) where
    counter_gives : (k : ℕ) → has.counters k ≡ true → gives scope here (c_read (counter_place k)) ≡ Some (pos (r.counters k))
    counter_gives k its =
        ap (option_map scalar_number) (read_answer scope here (counter_place k) (register_at has scope (Counter k)) (counter_answer scope here k))
        ∙ ap Some (hold.each (Counter k) its)

    pub rested_gives : (k : ℕ) → has.copied k ≡ true → gives scope here (c_read (rested_place k)) ≡ Some (pos (r.rested k))
    rested_gives k its =
        ap (option_map scalar_number) (read_answer scope here (rested_place k) (register_at has scope (Before k)) (local_answer scope here (rested_name k)))
        ∙ ap Some (hold.each (Before k) its)

    pub flag_shows : WordsAgree view has → (k : ℕ) → has.flags k ≡ true → Shows (c_read (flag_place (with_word view.word k))) (r.flags k)
    flag_shows words k its =
        ap (option_map scalar_number)
        (read_answer scope here (flag_place (with_word view.word k)) (register_at has scope (Flag k))
        (flag_answer scope here has view.word k (words k)))
        ∙ ap Some (hold.each (Flag k) its)

    mark_shows : WordsAgree view has → (k : ℕ) → has.marks k ≡ true → Shows (c_read (mark_place (with_word view.word k))) (r.marks k)
    mark_shows words k its =
        ap (option_map scalar_number)
        (read_answer scope here (mark_place (with_word view.word k)) (register_at has scope (Mark k))
        (mark_answer scope here has view.word k (words k)))
        ∙ ap Some (hold.each (Mark k) its)

    pub since_shows : (k least : ℕ) → has.copied k ≡ true → Shows (rested_since view k least) (nat_le least (r.rested k))
    since_shows k least its = by (nat_eq least 1) refl
      where
        by : (one : Bool) → nat_eq least 1 ≡ one → Shows (rested_from view k least one) (nat_le least (r.rested k))
        by true is =
            differs_shows (c_read (rested_place k)) (counter_value view.sizes k 0) (r.rested k) 0 (rested_gives k its) (literal_gives _ (pos 0))
            ∙ ap (λ b. Some (number_of b)) (some_value (r.rested k) least (eqb-true least 1 is))
        by false is =
            no_less_shows (c_read (rested_place k)) (counter_value view.sizes k least) (r.rested k) least (rested_gives k its)
            (literal_gives _ (pos least))

    pub rested_shows : RestsWithin view.sizes r → (slot : Slot) → has.copied slot.counter ≡ true →
        Shows (rested_at view slot) (is_at r.rested slot)
    rested_shows within slot its = by (is_greatest view.sizes slot.counter slot.value) refl
      where
        by : (last : Bool) → is_greatest view.sizes slot.counter slot.value ≡ last → Shows (rested_by view slot last) (is_at r.rested slot)
        by true is =
            since_shows slot.counter slot.value its
            ∙ ap (λ b. Some (number_of b))
            (greatest_value_is (r.rested slot.counter) slot.value (greatest_value view.sizes slot.counter)
            (leb-true (greatest_value view.sizes slot.counter) slot.value is) (within slot.counter))
        by false is =
            eq_shows (c_read (rested_place slot.counter)) (counter_value view.sizes slot.counter slot.value) (r.rested slot.counter) slot.value
            (rested_gives slot.counter its) (literal_gives _ (pos slot.value))

    slot_shows : (slot : Slot) → has.counters slot.counter ≡ true → Shows (at_slot view slot) (is_at r.counters slot)
    slot_shows slot its =
        eq_shows (c_read (counter_place slot.counter)) (counter_value view.sizes slot.counter slot.value) (r.counters slot.counter) slot.value
        (counter_gives slot.counter its) (literal_gives _ (pos slot.value))

    slots_show : (slots : List Slot) → list_all (λ slot. has.counters slot.counter) slots ≡ true →
        AllShow (map (at_slot view) slots) (map (is_at r.counters) slots)
    slots_show [] its = tt
    slots_show (slot ∷ rest) its =
        let found = and_parts (has.counters slot.counter) (list_all (λ slot. has.counters slot.counter) rest) its in
        (slot_shows slot found.0, slots_show rest found.1)

    ends_by : (slots : List Slot) → list_all (λ slot. has.counters slot.counter) slots ≡ true → (all : Bool) →
        Shows (ends_test view (record { all = all; slots = slots })) (are_ended r.counters (record { all = all; slots = slots }))
    ends_by slots its true =
        tree_shows And (λ a b. a && b) true and_regroup and_true and_shows (c_truth true) (truth_shows true) (length (map (at_slot view) slots))
        (map (at_slot view) slots) (map (is_at r.counters) slots) (omega arith) (slots_show slots its)
        ∙ ap (λ b. Some (number_of b)) (all_reduced (is_at r.counters) slots)
    ends_by slots its false =
        tree_shows Or (λ a b. a || b) false or_regroup or_false or_shows (c_truth false) (truth_shows false) (length (map (at_slot view) slots))
        (map (at_slot view) slots) (map (is_at r.counters) slots) (omega arith) (slots_show slots its)
        ∙ ap (λ b. Some (number_of b)) (any_reduced (is_at r.counters) slots)

    pub aged_shows : WordsAgree view has → (age : Age) (ends : CExpr) (ended : Bool) → has_age view.number has age ≡ true → Shows ends ended →
        Shows (aged_test view age ends) (is_aged view.number r.marks age && ended)
    aged_shows words (IsNew n) ends ended its h =
        and_shows (c_read (mark_place (node_word view n))) ends (r.marks (view.number n)) ended (mark_shows words (view.number n) its) h
    aged_shows words (IsOld n) ends ended its h =
        and_shows (c_not (c_read (mark_place (node_word view n)))) ends (not (r.marks (view.number n))) ended
        (not_shows (c_read (mark_place (node_word view n))) (r.marks (view.number n)) (mark_shows words (view.number n) its)) h
    aged_shows words IsAny ends ended its h = h

    pub ends_show : (needed : Needed) → list_all (λ slot. has.counters slot.counter) needed.slots ≡ true →
        Shows (ends_test view needed) (are_ended r.counters needed)
    ends_show needed its = ends_by needed.slots its needed.all
