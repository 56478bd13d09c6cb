-- Lists by the positions of their elements, and orders of the numbers below one.
use Rattle.std.proofs.Common.{◌≡◌, ◌⊎◌, ⊎_elim, ℕ, zero, suc, ◌+◌, ◌<◌, ◌≤◌, Bool, true, false}
use Rattle.std.proofs.Common.{List, [], ◌∷◌, ◌++◌, Contains, Option, Some, None}
use Rattle.std.proofs.Common.{nat_eq, refl, sym, ap, subst, ◌∙◌, arith, length, eq-eqb, eqb-true, if◌then◌else◌}
use Rattle.std.specs.Prelude.{IsPermutation, option_to_list, slice_get}
use Rattle.std.proofs.lemmas.List.Sorted.{Contains-permutation, sum_by-IsPermutation}
use Rattle.std.proofs.lemmas.List.Sums.{sum_by-cons, sum_by_push}
use Rattle.bl_tree.proofs.Basics.{contains_at, contains_first, contains_further, index_of, less_or_not, none_is_some, same_some, some_within}
use Rattle.bl_machine.specs.Blocks.{up_to}
use Rattle.bl_machine.specs.Slots.{times}
use Rattle.bl_machine_pass.specs.Numbered.{position_where}
use Rattle.bl_emit_spec.specs.Activities.{picked}
use Rattle.bl_emit_spec_laws.proofs.OnOwn.Counting.{get_up_to, as_one, one_most}
use Rattle.bl_machine_pass_laws.proofs.OnSlots.Finding.{found_first}
use Rattle.bl_machine_transitions_laws.proofs.Standing.{past}

-- ---- the first that passes

-- where one alone passes it is found
pub found_at : (p : ℕ) (xs : List ℕ) (k : ℕ) → slice_get xs k ≡ Some p → ((j : ℕ) → slice_get xs j ≡ Some p → j ≡ k) →
    position_where (nat_eq p) xs ≡ k
found_at p [] k is alone = none_is_some p is
found_at p (x ∷ xs) zero is alone = found_first (nat_eq p x) (position_where (nat_eq p) xs) (eq-eqb p x (sym (same_some x p is)))
found_at p (x ∷ xs) (suc k) is alone =
    past (nat_eq p x) (position_where (nat_eq p) xs)
    (λ e. (let zero_is : 0 ≡ suc k = alone 0 (ap Some (sym (eqb-true p x e))) in omega (arith, zero_is)))
    ∙ ap suc (found_at p xs k is (λ j there. (let next : suc j ≡ suc k = alone (suc j) there in omega (arith, next))))

-- ---- orders

-- how often the number stands among the first ones
abbrev in_front : ℕ → ℕ → List ℕ → ℕ
in_front p zero xs = 0
in_front p (suc k) [] = 0
in_front p (suc k) (x ∷ xs) = as_one (nat_eq x p) + in_front p k xs

one_itself : (p : ℕ) → as_one (nat_eq p p) ≡ 1
one_itself p = ap as_one (eq-eqb p p refl)

front_more : (p : ℕ) (xs : List ℕ) (i : ℕ) → slice_get xs i ≡ Some p → in_front p (suc i) xs ≡ suc (in_front p i xs)
front_more p [] i is = none_is_some p is
front_more p (y ∷ xs) zero is =
    let one = one_itself p in
    let same : as_one (nat_eq y p) ≡ as_one (nat_eq p p) = ap (λ n. as_one (nat_eq n p)) (same_some y p is) in omega arith
front_more p (y ∷ xs) (suc i) is = let rest = front_more p xs i is in omega arith

front_rises : (p : ℕ) (xs : List ℕ) (i j : ℕ) → i ≤ j → in_front p i xs ≤ in_front p j xs
front_rises p xs zero j less = omega arith
front_rises p xs (suc i) zero less = absurd (omega (arith, less))
front_rises p [] (suc i) (suc j) less = omega arith
front_rises p (x ∷ xs) (suc i) (suc j) less = let rest = front_rises p xs i j (omega (arith, less)) in omega arith

front_within : (p : ℕ) (xs : List ℕ) (i : ℕ) → in_front p i xs ≤ in_front p (length xs) xs
front_within p xs zero = omega arith
front_within p [] (suc i) = omega arith
front_within p (x ∷ xs) (suc i) = let rest = front_within p xs i in omega arith

times_front : (p : ℕ) (xs : List ℕ) → times p xs ≡ in_front p (length xs) xs
times_front p [] = refl
times_front p (x ∷ xs) =
    let sum : times p (x ∷ xs) ≡ as_one (nat_eq x p) + times p xs = sum_by-cons (λ other. as_one (nat_eq other p)) x xs in
    let rest = times_front p xs in omega arith

-- a number that stands at two positions stands there twice
twice : (p : ℕ) (xs : List ℕ) (i j : ℕ) → i < j → slice_get xs i ≡ Some p → slice_get xs j ≡ Some p → times p xs ≤ 1 → ⊥
twice p xs i j less one two most =
    let first = front_more p xs i one in
    let rises = front_rises p xs (suc i) j (omega (arith, less)) in
    let second = front_more p xs j two in
    let within = front_within p xs (suc j) in
    let all = times_front p xs in omega (arith, most)

one_place : (p : ℕ) (xs : List ℕ) (i j : ℕ) → slice_get xs i ≡ Some p → slice_get xs j ≡ Some p → times p xs ≤ 1 → i ≡ j
one_place p xs i j one two most =
    ⊎_elim (λ less. absurd (twice p xs i j less one two most))
    (λ more.
    ⊎_elim (λ less. absurd (twice p xs j i less two one most)) (λ back. (let same : i ≡ j = omega (arith, more, back) in same))
    (less_or_not j i))
    (less_or_not i j)

-- a bound on the numbers of an order
times_last : (p n : ℕ) (xs : List ℕ) → times p (xs ++ n ∷ []) ≡ times p xs + as_one (nat_eq n p)
times_last p n xs = sum_by_push (λ other. as_one (nat_eq other p)) xs n

no_times : (p n : ℕ) → n ≤ p → times p (up_to n) ≡ 0
no_times p zero less = refl
no_times p (suc n) less =
    let rest = no_times p n (omega (arith, less)) in
    let last = times_last p n (up_to n) in
    let none : as_one (nat_eq n p) ≡ 0 = by_test (nat_eq n p) refl in omega arith
  where
    by_test : (b : Bool) → nat_eq n p ≡ b → as_one b ≡ 0
    by_test true e = let same = eqb-true n p e in absurd (omega (arith, less, same))
    by_test false e = refl

few_below : (p n : ℕ) → p < n → times p (up_to n) ≤ 1 → times p (up_to (suc n)) ≤ 1
few_below p n less rest =
    let last = times_last p n (up_to n) in let none : as_one (nat_eq n p) ≡ 0 = by_test (nat_eq n p) refl in omega (arith, rest)
  where
    by_test : (b : Bool) → nat_eq n p ≡ b → as_one b ≡ 0
    by_test true e = let same = eqb-true n p e in absurd (omega (arith, less, same))
    by_test false e = refl

few_above : (p n : ℕ) → n ≤ p → times p (up_to (suc n)) ≤ 1
few_above p n more =
    let rest = no_times p n more in let last = times_last p n (up_to n) in let one = one_most (nat_eq n p) in omega arith

few_times : (p n : ℕ) → times p (up_to n) ≤ 1
few_times p zero = let none : times p [] ≡ 0 = refl in omega arith
few_times p (suc n) = ⊎_elim (λ less. few_below p n less (few_times p n)) (λ more. few_above p n more) (less_or_not p n)

-- an order of the numbers below n
module _ (n : ℕ) (order : List ℕ) (is : IsPermutation (up_to n) order) where
  -- each stands somewhere
  pub number_there : (p : ℕ) → p < n → (k : ℕ) × (slice_get order k ≡ Some p)
  number_there p below =
      index_of order p (Contains-permutation (up_to n) order p is (contains_at (up_to n) p p (get_up_to n p below)))

  -- and once
  pub number_once : (p i j : ℕ) → slice_get order i ≡ Some p → slice_get order j ≡ Some p → i ≡ j
  number_once p i j one two =
      let few = few_times p n in
      let same : times p (up_to n) ≡ times p order = sym (sum_by-IsPermutation (λ other. as_one (nat_eq other p)) (up_to n) order is) in
      one_place p order i j one two (let most : times p order ≤ 1 = omega arith in most)

  -- no other does
  pub number_below : (p k : ℕ) → slice_get order k ≡ Some p → p < n
  number_below p k at =
      ⊎_elim (λ less. less) (λ more. absurd (by_times more)) (less_or_not p n)
    where
      by_times : n ≤ p → ⊥
      by_times more =
          let none = no_times p n more in
          let same : times p (up_to n) ≡ times p order = sym (sum_by-IsPermutation (λ other. as_one (nat_eq other p)) (up_to n) order is) in
          let front = times_front p order in
          let next = front_more p order k at in let within = front_within p order (suc k) in omega arith

-- ---- some elements by their positions

module _ {X : Type 0} (all : List X) where
  -- all of these are positions
  abbrev pub Within : List ℕ → Type 0
  Within order = (k p : ℕ) → slice_get order k ≡ Some p → p < length all

  pub picked_first : (q : ℕ) (order : List ℕ) (x : X) → slice_get all q ≡ Some x → picked all (q ∷ order) ≡ x ∷ picked all order
  picked_first q order x is = ap (λ found. option_to_list found ++ picked all order) is

  pub picked_at : (order : List ℕ) → Within order → (k p : ℕ) (x : X) → slice_get order k ≡ Some p → slice_get all p ≡ Some x →
      slice_get (picked all order) k ≡ Some x
  picked_at [] within k p x at is = none_is_some p at
  picked_at (q ∷ order) within zero p x at is =
      let there : slice_get all q ≡ Some x = ap (slice_get all) (same_some q p at) ∙ is in
      ap (λ (found : List X). slice_get found 0) (picked_first q order x there)
  picked_at (q ∷ order) within (suc k) p x at is =
      let first = some_within all q (within 0 q refl) in
      ap (λ (found : List X). slice_get found (suc k)) (picked_first q order first.0 first.1)
      ∙ picked_at order (λ j r there. within (suc j) r there) k p x at is

  pub picked_many : (order : List ℕ) → Within order → length (picked all order) ≡ length order
  picked_many [] within = refl
  picked_many (q ∷ order) within =
      let first = some_within all q (within 0 q refl) in
      ap (λ (found : List X). length found) (picked_first q order first.0 first.1)
      ∙ ap suc (picked_many order (λ j r there. within (suc j) r there))

  -- what stands at one of these positions is picked
  pub picked_has : (order : List ℕ) (p : ℕ) (x : X) → Contains order p → slice_get all p ≡ Some x → Contains (picked all order) x
  picked_has [] p x (k, below, is) at = absurd (omega (arith, below))
  picked_has (q ∷ order) p x (zero, below, is) at =
      subst (λ (found : List X). Contains found x) (sym (picked_first q order x (ap (slice_get all) is ∙ at))) (contains_first x (picked all order))
  picked_has (q ∷ order) p x (suc k, below, is) at =
      by (slice_get all q) (picked_has order p x (k, omega (arith, below), is) at)
    where
      by : (found : Option X) → Contains (picked all order) x → Contains (option_to_list found ++ picked all order) x
      by None there = there
      by (Some y) there = contains_further y (picked all order) x there

  -- and what is picked stands at one of them
  pub picked_from : (order : List ℕ) (x : X) → Contains (picked all order) x → (p : ℕ) × Contains order p × (slice_get all p ≡ Some x)
  picked_from [] x (k, below, is) = absurd (omega (arith, below))
  picked_from (q ∷ order) x there =
      by (λ rest. (let found = picked_from order x rest in (found.0, contains_further q order found.0 found.1, found.2))) (slice_get all q) refl there
    where
      by : (Contains (picked all order) x → (p : ℕ) × Contains (q ∷ order) p × (slice_get all p ≡ Some x)) → (found : Option X) →
          slice_get all q ≡ found → Contains (option_to_list found ++ picked all order) x →
          (p : ℕ) × Contains (q ∷ order) p × (slice_get all p ≡ Some x)
      by later None is rest = later rest
      by later (Some y) is (zero, below, same) = (q, contains_first q order, is ∙ ap Some same)
      by later (Some y) is (suc k, below, same) = later (k, omega (arith, below), same)
