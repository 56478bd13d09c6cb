-- Numbers that count up: no two are one, and no value is 0.
use Rattle.std.proofs.Common.{◌≡◌, ℕ, zero, suc, ◌+◌, ◌<◌, ◌≤◌, List, [], ◌∷◌, ◌++◌, Some, cond, nat_eq, refl, ap, arith}
use Rattle.std.proofs.Common.{eq-eqb}
use Rattle.std.specs.Prelude.{slice_get}
use Rattle.std.proofs.lemmas.List.Sums.{sum_by_push}
use Rattle.bl_machine.specs.declared.slots.Slot.{Slot}
use Rattle.bl_machine.specs.Slots.{numbered_after, numbered_slots, times}

-- ---- how often a counter stands among others

-- whether a number is the counter, as 1 or 0
abbrev pub one_if : ℕ → ℕ → ℕ
one_if counter other = cond (nat_eq other counter) 1 0

pub times_last : (counter other : ℕ) (before : List ℕ) → times counter (before ++ other ∷ []) ≡ times counter before + one_if counter other
times_last counter other before = sum_by_push (one_if counter) before other

times_more : (counter other : ℕ) (before : List ℕ) → times counter before ≤ times counter (before ++ other ∷ [])
times_more counter other before = let sum = times_last counter other before in omega arith

times_itself : (counter : ℕ) (before : List ℕ) → times counter (before ++ counter ∷ []) ≡ suc (times counter before)
times_itself counter before =
    let sum = times_last counter counter before in
    let one : one_if counter counter ≡ 1 = ap (λ b. cond b 1 0) (eq-eqb counter counter refl) in omega arith

-- ---- values

pub first_is : (x y : Slot) → Some x ≡ Some y → x ≡ y
first_is x y is = cc

-- the value of each is greater than the number of those before that have its counter
high : (before counters : List ℕ) (i : ℕ) (x : Slot) → slice_get (numbered_after before counters) i ≡ Some x → times x.counter before < x.value
high before [] i x is = absurd cc
high before (counter ∷ rest) zero x is =
    let same : record { counter = counter; value = suc (times counter before) } ≡ x = first_is _ x is in
    let value : suc (times counter before) ≡ x.value = ap (λ (y : Slot). y.value) same in
    let times : times counter before ≡ times x.counter before = ap (λ (y : Slot). times y.counter before) same in omega arith
high before (counter ∷ rest) (suc i) x is =
    let more = high (before ++ counter ∷ []) rest i x is in let least = times_more x.counter counter before in omega arith

-- a later one isn't the first
later_differs : (before rest : List ℕ) (counter i : ℕ) (x : Slot) → record { counter = counter; value = suc (times counter before) } ≡ x →
    slice_get (numbered_after (before ++ counter ∷ []) rest) i ≡ Some x → ⊥
later_differs before rest counter i x same is =
    let more = high (before ++ counter ∷ []) rest i x is in
    let value : suc (times counter before) ≡ x.value = ap (λ (y : Slot). y.value) same in
    let often : times counter (before ++ counter ∷ []) ≡ times x.counter (before ++ counter ∷ []) =
    ap (λ (y : Slot). times y.counter (before ++ counter ∷ [])) same in
    let last = times_itself counter before in omega arith

once_after : (before counters : List ℕ) (i j : ℕ) (x : Slot) → slice_get (numbered_after before counters) i ≡ Some x →
    slice_get (numbered_after before counters) j ≡ Some x → i ≡ j
once_after before [] i j x one two = absurd cc
once_after before (counter ∷ rest) zero zero x one two = refl
once_after before (counter ∷ rest) zero (suc j) x one two = absurd (later_differs before rest counter j x (first_is _ x one) two)
once_after before (counter ∷ rest) (suc i) zero x one two = absurd (later_differs before rest counter i x (first_is _ x two) one)
once_after before (counter ∷ rest) (suc i) (suc j) x one two = ap suc (once_after (before ++ counter ∷ []) rest i j x one two)

pub numbered_once : (counters : List ℕ) (i j : ℕ) (x : Slot) → slice_get (numbered_slots counters) i ≡ Some x → slice_get (numbered_slots counters) j
    ≡ Some x → i ≡ j
numbered_once counters i j x one two = once_after [] counters i j x one two

pub numbered_counted : (counters : List ℕ) (i : ℕ) (x : Slot) → slice_get (numbered_slots counters) i ≡ Some x → x.value ≡ 0 → ⊥
numbered_counted counters i x is none = let more = high [] counters i x is in omega arith
