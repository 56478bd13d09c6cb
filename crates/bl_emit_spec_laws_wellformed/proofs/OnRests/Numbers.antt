-- The numbers in a list that count up are ones of their counters' types.
use Rattle.std.proofs.Common.{◌≡◌, ℕ, zero, suc, ◌+◌, ◌<◌, ◌≤◌, ◌^◌}
use Rattle.std.proofs.Common.{pos, Bool, true, false, List, [], ◌∷◌, ◌++◌}
use Rattle.std.proofs.Common.{length, Option, Some, cond, refl, sym, ap, ◌∙◌, subst, arith}
use Rattle.std.proofs.Math.Nat.{le-max_left, le-max_right}
use Rattle.std.proofs.lemmas.Bool.Decides.{nat_tests}
use Rattle.std.proofs.lemmas.List.Sums.{count_by-le-length, sum_by-cons}
use Rattle.std.proofs.lemmas.Option.{slice_get-map, slice_get_within}
use Rattle.std.specs.Prelude.{if◌then◌else◌, int_le, nat_eq, nat_le, nat_lt, option_map, slice_get, unwrap_or}
use Rattle.std.proofs.lemmas.Bool.{and_from}
use Rattle.bl_tree.proofs.Basics.{at_most_test, less_test, number_itself}
use Rattle.bl_tree.specs.declared.scalar.Scalar.TheVariants.{Nat}
use Rattle.bl_tree.specs.declared.scalar.Width.TheVariants.{W8, W16, W32}
use Rattle.bl_tree.specs.Reduce.{greatest}
use Rattle.bl_tree.specs.Scalar.{in_range}
use Rattle.bl_machine.specs.declared.slots.Slot.{Slot}
use Rattle.bl_machine.specs.Blocks.{up_to}
use Rattle.bl_machine.specs.Slots.{counters_at, numbered_after, numbered_slots, times}
use Rattle.bl_machine_pass.specs.Numbered.{sizes_for, sizes_of}
use Rattle.bl_emit_spec.specs.Blocks.{counter_type, type_for}
use Rattle.bl_emit_spec_laws_wellformed.specs.Spelled.{slot_fits}
use Rattle.bl_emit_spec_laws_wellformed.proofs.OnClosed.Closed.{got_up}
use Rattle.bl_machine_pass_laws.proofs.OnSlots.Numbering.{first_is, one_if, times_last}

-- ---- values count up

hit_itself : (k : ℕ) → one_if k k ≡ 1
hit_itself k = ap (λ b. cond b 1 0) (number_itself k)

times_first : (counter other : ℕ) (rest : List ℕ) →
    times counter (other ∷ rest) ≡ one_if counter other + times counter rest
times_first counter other rest = sum_by-cons (one_if counter) other rest

-- no value is greater than the number of those that have its counter
values_low : (before counters : List ℕ) (i : ℕ) (x : Slot) → slice_get (numbered_after before counters) i ≡ Some x →
    x.value ≤ times x.counter before + times x.counter counters
values_low before [] i x is = absurd (cc)
values_low before (counter ∷ rest) zero x is =
    let same : record { counter = counter; value = suc (times counter before) } ≡ x = first_is _ x is in
    let one = hit_itself counter in
    let more = times_first counter counter rest in
    let low : suc (times counter before) ≤ times counter before + times counter (counter ∷ rest) = omega (arith, one, more) in
    subst (λ (y : Slot). y.value ≤ times y.counter before + times y.counter (counter ∷ rest)) same low
values_low before (counter ∷ rest) (suc i) x is =
    let low = values_low (before ++ counter ∷ []) rest i x is in
    let more = times_first x.counter counter rest in
    let last = times_last x.counter counter before in omega (arith, low, more, last)

-- ---- how many values each counter has

member_low : (counters : List ℕ) (i k : ℕ) → slice_get counters i ≡ Some k → k ≤ greatest counters
member_low [] i k is = absurd (cc)
member_low (c ∷ counters) zero k is =
    let same : c ≡ k = cc in let low = le-max_left c (greatest counters) in omega (arith, same, low)
member_low (c ∷ counters) (suc i) k is =
    let rest = member_low counters i k is in let low = le-max_right c (greatest counters) in omega (arith, rest, low)

size_at : (counters : List ℕ) (i k : ℕ) → slice_get counters i ≡ Some k → slice_get (sizes_for counters) k ≡ Some (times k counters)
size_at [] i k is = absurd (cc)
size_at (c ∷ counters) i k is =
    let low : k ≤ greatest (c ∷ counters) = member_low (c ∷ counters) i k is in
    slice_get-map (λ j. times j (c ∷ counters)) (up_to (suc (greatest (c ∷ counters)))) k
    ∙ ap (option_map (λ j. times j (c ∷ counters))) (got_up (suc (greatest (c ∷ counters))) k (omega (arith, low)))

-- ---- types

typed : (n v : ℕ) → v ≤ n → n < 2 ^ 32 → in_range (type_for n) (pos v) ≡ true
typed n v below small = by (nat_le n 255) (nat_le n 65535) refl refl
  where
    least : int_le (pos 0) (pos v) ≡ true
    least = at_most_test 0 v (omega arith)

    by : (a b : Bool) → nat_le n 255 ≡ a → nat_le n 65535 ≡ b →
        in_range (if a then Nat W8 else if b then Nat W16 else Nat W32) (pos v) ≡ true
    by true b one two =
        let n_low : n ≤ 255 = grind (arith, nat_tests, one) in
        and_from (int_le (pos 0) (pos v)) (int_le (pos v) (pos 255)) least (at_most_test v 255 (omega (arith, below, n_low)))
    by false true one two =
        let n_low : n ≤ 65535 = grind (arith, nat_tests, two) in
        and_from (int_le (pos 0) (pos v)) (int_le (pos v) (pos 65535)) least (at_most_test v 65535 (omega (arith, below, n_low)))
    by false false one two =
        and_from (int_le (pos 0) (pos v)) (int_le (pos v) (pos 4294967295)) least (at_most_test v 4294967295 (omega (arith, below, small)))

-- each number in the list fits
pub number_fits : (list : List Slot) → list ≡ numbered_slots (counters_at list) → length list < 2 ^ 32 → length (sizes_of list) ≤ 2 ^ 64 →
    (i : ℕ) (x : Slot) → slice_get list i ≡ Some x → slot_fits (sizes_of list) x ≡ true
number_fits list values small few i x is =
    let counters : List ℕ = counters_at list in
    let counter : slice_get counters i ≡ Some x.counter =
    slice_get-map (λ (slot : Slot). slot.counter) list i ∙ ap (option_map (λ (slot : Slot). slot.counter)) is in
    let size : slice_get (sizes_of list) x.counter ≡ Some (times x.counter counters) = size_at counters i x.counter counter in
    let there : slice_get (numbered_slots counters) i ≡ Some x = ap (λ (all : List Slot). slice_get all i) (sym values) ∙ is in
    let low : x.value ≤ times x.counter [] + times x.counter counters = values_low [] counters i x there in
    let many : times x.counter counters ≤ length counters = count_by-le-length (λ other. nat_eq other x.counter) counters in
    let same : length counters ≡ length list = map_length list in
    let inside : x.counter < length (sizes_of list) = slice_get_within (sizes_of list) x.counter (times x.counter counters) size in
    let kind : type_for (times x.counter counters) ≡ counter_type (sizes_of list) x.counter =
    sym (ap (λ (size : Option ℕ). type_for (unwrap_or size 0)) size) in
    and_from (nat_lt x.counter (2 ^ 64)) (in_range (counter_type (sizes_of list) x.counter) (pos x.value))
    (less_test x.counter (2 ^ 64) (omega (arith, inside, few)))
    (subst (λ s. in_range s (pos x.value) ≡ true) kind
    (typed (times x.counter counters) x.value (omega (arith, low)) (omega (arith, many, same, small))))
  where
    map_length : (slots : List Slot) → length (counters_at slots) ≡ length slots
    map_length [] = refl
    map_length (slot ∷ slots) = ap suc (map_length slots)
