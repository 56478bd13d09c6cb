-- The numbers that a list has for the places of a body: their values count up, and each is one of its counter's.
use Rattle.std.proofs.Common.{◌≡◌, ◌⊎◌, ⊎_elim, ℕ, zero, suc, ◌+◌, ◌<◌, ◌≤◌, max, Bool, true}
use Rattle.std.proofs.Common.{false, List, [], ◌∷◌, ◌++◌, Some, cond}
use Rattle.std.proofs.Common.{nat_eq, refl, sym, ap, subst, ◌∙◌, arith, length, map, unwrap_or, eq-eqb, eqb-true}
use Rattle.std.specs.Prelude.{slice_get}
use Rattle.std.proofs.lemmas.List.{length-append}
use Rattle.std.proofs.lemmas.List.Sums.{sum_by-cons, sum_by_push}
use Rattle.bl_tree.proofs.Basics.{below_or_last, map_length, none_is_some, same_some}
use Rattle.bl_tree.specs.Reduce.{greatest}
use Rattle.bl_machine.specs.declared.slots.Slot.{Slot}
use Rattle.bl_machine.specs.Blocks.{up_to}
use Rattle.bl_machine.specs.Slots.{counters_at, numbered_after, numbered_slots, times}
use Rattle.bl_machine_pass.specs.Numbered.{sizes_for, sizes_of}
use Rattle.bl_emit_spec_laws.specs.Own.{PlaceCounts}

-- ---- how often a counter stands among the first of some

-- a test as 1 or 0
abbrev pub as_one : Bool → ℕ
as_one b = cond b 1 0

pub one_most : (b : Bool) → as_one b ≤ 1
one_most true = omega arith
one_most false = omega arith

-- whether a number is the counter, as 1 or 0
abbrev pub one_if : ℕ → ℕ → ℕ
one_if counter other = as_one (nat_eq other counter)

-- how often the counter stands among the first ones
abbrev pub in_front : ℕ → ℕ → List ℕ → ℕ
in_front counter zero xs = 0
in_front counter (suc k) [] = 0
in_front counter (suc k) (x ∷ xs) = one_if counter x + in_front counter k xs

pub one_itself : (k : ℕ) → one_if k k ≡ 1
one_itself k = ap as_one (eq-eqb k k refl)

pub none_other : (k j : ℕ) → (j ≡ k → ⊥) → one_if k j ≡ 0
none_other k j differ = by_test (nat_eq j k) refl
  where
    by_test : (b : Bool) → nat_eq j k ≡ b → as_one b ≡ 0
    by_test true e = absurd (differ (eqb-true j k e))
    by_test false e = refl

-- one more
pub front_more : (counter : ℕ) (xs : List ℕ) (i x : ℕ) → slice_get xs i ≡ Some x →
    in_front counter (suc i) xs ≡ in_front counter i xs + one_if counter x
front_more counter [] i x is = none_is_some x is
front_more counter (y ∷ xs) zero x is = let same : one_if counter y ≡ one_if counter x = ap (one_if counter) (same_some y x is) in omega arith
front_more counter (y ∷ xs) (suc i) x is = let rest = front_more counter xs i x is in omega arith

front_within : (counter : ℕ) (xs : List ℕ) (i : ℕ) → in_front counter i xs ≤ in_front counter (length xs) xs
front_within counter xs zero = omega arith
front_within counter [] (suc i) = omega arith
front_within counter (x ∷ xs) (suc i) = let rest = front_within counter xs i in omega arith

times_front : (counter : ℕ) (xs : List ℕ) → times counter xs ≡ in_front counter (length xs) xs
times_front counter [] = refl
times_front counter (x ∷ xs) =
    let sum : times counter (x ∷ xs) ≡ one_if counter x + times counter xs = sum_by-cons (one_if counter) x xs in
    let rest = times_front counter xs in omega arith

-- ---- values

times_last : (counter other : ℕ) (before : List ℕ) → times counter (before ++ other ∷ []) ≡ times counter before + one_if counter other
times_last counter other before = sum_by_push (one_if counter) before other

value_after : (before counters : List ℕ) (i : ℕ) (x : Slot) → slice_get (numbered_after before counters) i ≡ Some x →
    x.value ≡ suc (times x.counter before + in_front x.counter i counters)
value_after before [] i x is = none_is_some x is
value_after before (counter ∷ rest) zero x is =
    let same : record { counter = counter; value = suc (times counter before) } ≡ x = same_some _ x is in
    let value : suc (times counter before) ≡ x.value = ap (λ (y : Slot). y.value) same in
    let many : times counter before ≡ times x.counter before = ap (λ (y : Slot). times y.counter before) same in omega arith
value_after before (counter ∷ rest) (suc i) x is =
    let more = value_after (before ++ counter ∷ []) rest i x is in
    let last = times_last x.counter counter before in omega arith

-- the value of a number is one more than the number of those before it that have its counter
pub value_at : (counters : List ℕ) (i : ℕ) (x : Slot) → slice_get (numbered_slots counters) i ≡ Some x → x.value
    ≡ suc (in_front x.counter i counters)
value_at counters i x is =
    let after = value_after [] counters i x is in let none : times x.counter [] ≡ 0 = refl in omega arith

pub counter_at : (list : List Slot) (i : ℕ) (x : Slot) → slice_get list i ≡ Some x → slice_get (counters_at list) i ≡ Some x.counter
counter_at [] i x is = none_is_some x is
counter_at (y ∷ list) zero x is = ap (λ (z : Slot). Some z.counter) (same_some y x is)
counter_at (y ∷ list) (suc i) x is = counter_at list i x is

-- ---- sizes

pub many_up_to : (n : ℕ) → length (up_to n) ≡ n
many_up_to zero = refl
many_up_to (suc n) = let all = length-append (up_to n) (n ∷ []) in let rest = many_up_to n in omega arith

pub get_left : (xs ys : List ℕ) (k x : ℕ) → slice_get xs k ≡ Some x → slice_get (xs ++ ys) k ≡ Some x
get_left [] ys k x is = none_is_some x is
get_left (y ∷ xs) ys zero x is = is
get_left (y ∷ xs) ys (suc k) x is = get_left xs ys k x is

pub get_last : (xs : List ℕ) (x k : ℕ) → k ≡ length xs → slice_get (xs ++ x ∷ []) k ≡ Some x
get_last [] x zero is = refl
get_last [] x (suc k) is = absurd (omega (arith, is))
get_last (y ∷ xs) x zero is = absurd (omega (arith, is))
get_last (y ∷ xs) x (suc k) is = get_last xs x k (omega (arith, is))

pub get_up_to : (n k : ℕ) → k < n → slice_get (up_to n) k ≡ Some k
get_up_to zero k below = absurd (omega (arith, below))
get_up_to (suc n) k below =
    ⊎_elim (λ less. get_left (up_to n) (n ∷ []) k k (get_up_to n k less))
    (λ is. subst (λ m. slice_get (up_to n ++ n ∷ []) k ≡ Some m) (sym is) (get_last (up_to n) n k (is ∙ sym (many_up_to n))))
    (below_or_last k n below)

get_mapped : (f : ℕ → ℕ) (xs : List ℕ) (k x : ℕ) → slice_get xs k ≡ Some x → slice_get (map f xs) k ≡ Some (f x)
get_mapped f [] k x is = none_is_some x is
get_mapped f (y ∷ xs) zero x is = ap (λ z. Some (f z)) (same_some y x is)
get_mapped f (y ∷ xs) (suc k) x is = get_mapped f xs k x is

max_first : (a b : ℕ) → a ≤ max a b
max_first a b = omega arith

max_second : (a b c : ℕ) → c ≤ b → c ≤ max a b
max_second a b c less = omega (arith, less)

at_most_greatest : (xs : List ℕ) (i x : ℕ) → slice_get xs i ≡ Some x → x ≤ greatest xs
at_most_greatest [] i x is = none_is_some x is
at_most_greatest (y ∷ xs) zero x is = subst (λ z. z ≤ max y (greatest xs)) (same_some y x is) (max_first y (greatest xs))
at_most_greatest (y ∷ xs) (suc i) x is = max_second y (greatest xs) x (at_most_greatest xs i x is)

-- how many values the counter of one of these has
size_at : (counters : List ℕ) (i c : ℕ) → slice_get counters i ≡ Some c →
    (c < length (sizes_for counters)) × (unwrap_or (slice_get (sizes_for counters) c) 0 ≡ times c counters)
size_at [] i c is = none_is_some c is
size_at (k ∷ rest) i c is =
    let most = at_most_greatest (k ∷ rest) i c is in
    let many = map_length (λ j. times j (k ∷ rest)) (up_to (suc (greatest (k ∷ rest)))) in
    let all = many_up_to (suc (greatest (k ∷ rest))) in
    let there : slice_get (sizes_for (k ∷ rest)) c ≡ Some (times c (k ∷ rest)) =
    get_mapped (λ j. times j (k ∷ rest)) (up_to (suc (greatest (k ∷ rest)))) c c
    (get_up_to (suc (greatest (k ∷ rest))) c (let less : c < suc (greatest (k ∷ rest)) = omega (arith, most) in less)) in (
      (let less : c < length (map (λ j. times j (k ∷ rest)) (up_to (suc (greatest (k ∷ rest))))) = omega (arith, most) in less),
      ap (λ found. unwrap_or found 0) there,
    )

-- each number of such a list is one of its counter's values
pub list_counts : (list : List Slot) → list ≡ numbered_slots (counters_at list) → (i : ℕ) (x : Slot) → slice_get list i ≡ Some x →
    PlaceCounts (sizes_of list) x
list_counts list counted i x is =
    let at = counter_at list i x is in
    let size = size_at (counters_at list) i x.counter at in
    let value : x.value ≡ suc (in_front x.counter i (counters_at list)) =
    value_at (counters_at list) i x (ap (λ xs. slice_get xs i) (sym counted) ∙ is) in
    let more = front_more x.counter (counters_at list) i x.counter at in
    let one = one_itself x.counter in
    let within = front_within x.counter (counters_at list) (suc i) in
    let all = times_front x.counter (counters_at list) in
    let most : x.value ≤ times x.counter (counters_at list) = omega arith in
    record {
      counter = size.0;
      low = (let low : 0 < x.value = omega arith in low);
      high = subst (λ n. x.value ≤ n) (sym size.1) most;
    }

-- no value is greater than the number of places
front_few : (counter : ℕ) (xs : List ℕ) (i : ℕ) → in_front counter i xs ≤ i
front_few counter xs zero = omega arith
front_few counter [] (suc i) = omega arith
front_few counter (x ∷ xs) (suc i) = let rest = front_few counter xs i in let one = one_most (nat_eq x counter) in omega arith

times_few : (counter : ℕ) (xs : List ℕ) → times counter xs ≤ length xs
times_few counter xs = let front = times_front counter xs in let few = front_few counter xs (length xs) in omega arith

-- nor is a counter's number of values
pub size_few : (list : List Slot) (i : ℕ) (x : Slot) → slice_get list i ≡ Some x →
    unwrap_or (slice_get (sizes_of list) x.counter) 0 ≤ length list
size_few list i x is =
    let size = size_at (counters_at list) i x.counter (counter_at list i x is) in
    let few = times_few x.counter (counters_at list) in
    let many = map_length (λ (y : Slot). y.counter) list in
    subst (λ n. n ≤ length list) (sym size.1) (let less : times x.counter (counters_at list) ≤ length list = omega arith in less)
