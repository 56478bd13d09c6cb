-- Numbers count up.
use Rattle.std.proofs.Common.{◌≡◌, ℕ, suc, ◌+◌, ◌<◌, ◌≤◌, false, List, [], ◌∷◌, ◌++◌, ◌⊎◌, ⊎_elim, length, get_or, set, take, drop, refl, ap, sym, subst, ◌∙◌}
use Rattle.std.proofs.Common.{append_assoc, arith, eq-eqb}
use Rattle.std.specs.Prelude.{All, nat_eq}
use Rattle.std.proofs.Math.Seq.{drop-cons, take-suc}
use Rattle.std.proofs.lemmas.List.{get_or-set_other, get_or-set_same, length-set}
use Rattle.std.proofs.lemmas.List.Elements.{All-get_or}
use Rattle.std.proofs.lemmas.List.Sums.{count_by_more_no, count_by_more_yes}
use Rattle.std.proofs.lemmas.Bool.{cases_eq}
use Rattle.std.proofs.lemmas.Bool.Decides.{nat_tests}
use Rattle.bl_machine.specs.declared.slots.Slot.{Slot}
use Rattle.bl_machine.specs.Slots.{counters_at, numbered_after, numbered_slots, times}

-- the counters of numbers are those that were numbered
pub counters_after : (before rest : List ℕ) → counters_at (numbered_after before rest) ≡ rest
counters_after before [] = refl
counters_after before (counter ∷ rest) = ap (λ others. counter ∷ others) (counters_after (before ++ counter ∷ []) rest)

pub counters_numbered : (counters : List ℕ) → counters_at (numbered_slots counters) ≡ counters
counters_numbered counters = counters_after [] counters

-- and each has one
length_after : (before rest : List ℕ) → length (numbered_after before rest) ≡ length rest
length_after before [] = refl
length_after before (counter ∷ rest) = ap suc (length_after (before ++ counter ∷ []) rest)

pub length_numbered : (counters : List ℕ) → length (numbered_slots counters) ≡ length counters
length_numbered counters = length_after [] counters

-- ---- one number after another

-- so far the first of the counters have numbers, and the last value of each counter is known
pub record Numbering (width : ℕ) (counters : List ℕ) (i : ℕ) (last : List ℕ) (slots : List Slot) : Type 0 where
  pub one_each : length last ≡ width
  pub counted : (k : ℕ) → k < width → get_or last k 0 ≡ times k (take i counters)
  pub goes_on : slots ++ numbered_after (take i counters) (drop i counters) ≡ numbered_slots counters

module _ (counters : List ℕ) (i counter : ℕ) (lt : i < length counters) (is : counter ≡ get_or counters i counter) where
  same_counted : times counter (take (i + 1) counters) ≡ times counter (take i counters) + 1
  same_counted =
      count_by_more_yes (λ other. nat_eq other counter) counters i counter lt (eq-eqb (get_or counters i counter) counter (sym is))

  other_counted : (k : ℕ) → (k ≡ counter → ⊥) → times k (take (i + 1) counters) ≡ times k (take i counters)
  other_counted k differs =
      count_by_more_no (λ other. nat_eq other k) counters i counter lt (unequal (get_or counters i counter) k (λ e. differs (sym (is ∙ e))))
    where
      unequal : (a b : ℕ) → (a ≡ b → ⊥) → nat_eq a b ≡ false
      unequal a b differs = grind (arith, nat_tests)

  goes_further : (value : ℕ) (slots : List Slot) → value ≡ suc (times counter (take i counters)) →
      slots ++ numbered_after (take i counters) (drop i counters) ≡ numbered_slots counters →
      (slots ++ record { counter = counter; value = value } ∷ []) ++ numbered_after (take (i + 1) counters) (drop (i + 1) counters) ≡ numbered_slots counters
  goes_further value slots e h =
      let next : i + 1 ≡ suc i = omega arith in
      let front : take (i + 1) counters ≡ take i counters ++ counter ∷ [] =
      ap (λ n. take n counters) next ∙ take-suc counters i counter lt ∙ ap (λ c. take i counters ++ c ∷ []) (sym is) in
      let back : drop i counters ≡ counter ∷ drop (i + 1) counters =
      drop-cons counters i counter lt ∙ ap (λ c. c ∷ drop (suc i) counters) (sym is) ∙ ap (λ n. counter ∷ drop n counters) (sym next) in
      append_assoc slots (record { counter = counter; value = value } ∷ []) (numbered_after (take (i + 1) counters) (drop (i + 1) counters))
      ∙ ap (λ v. slots ++ record { counter = counter; value = v } ∷ numbered_after (take (i + 1) counters) (drop (i + 1) counters)) e
      ∙ ap (λ f. slots ++ record { counter = counter; value = suc (times counter (take i counters)) } ∷ numbered_after f (drop (i + 1) counters)) front
      ∙ ap (λ b. slots ++ numbered_after (take i counters) b) (sym back)
      ∙ h

pub numbering_goes_on : (width i counter value : ℕ) (counters last : List ℕ) (slots : List Slot) → All (λ counter. counter < width) counters →
    i < length counters → counter ≡ get_or counters i counter → value ≡ get_or last counter 0 + 1 → Numbering width counters i last slots →
    Numbering width counters (i + 1) (set last counter value) (slots ++ record { counter = counter; value = value } ∷ [])
numbering_goes_on width i counter value counters last slots all lt is adds h =
    let inside : counter < width = subst (λ c. c < width) (sym is) (All-get_or (λ counter. counter < width) counters i counter lt all) in
    let held : counter < length last = (let e = h.one_each in omega arith) in
    let was : get_or last counter 0 ≡ times counter (take i counters) = h.counted counter inside in
    let value_is : value ≡ suc (times counter (take i counters)) = omega arith in record {
      one_each = length-set last counter value ∙ h.one_each;
      counted = λ k below. counted_at k below (cases_eq k counter) held value_is;
      goes_on = goes_further counters i counter lt is value slots value_is h.goes_on;
    }
  where
    counted_at : (k : ℕ) → k < width → (k ≡ counter) ⊎ (k ≡ counter → ⊥) → counter < length last →
        value ≡ suc (times counter (take i counters)) → get_or (set last counter value) k 0 ≡ times k (take (i + 1) counters)
    counted_at k below case held e =
        ⊎_elim
        (λ (same : k ≡ counter).
        ap (λ n. get_or (set last counter value) n 0) same ∙ get_or-set_same last counter value 0 held ∙ e
        ∙ (let one = same_counted counters i counter lt is in omega arith) ∙ ap (λ n. times n (take (i + 1) counters)) (sym same))
        (λ (differs : k ≡ counter → ⊥).
        get_or-set_other last counter k value 0 (λ e. differs e) ∙ h.counted k below ∙ sym (other_counted counters i counter lt is k differs))
        case
