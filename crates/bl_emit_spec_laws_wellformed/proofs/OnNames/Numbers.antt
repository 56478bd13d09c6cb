-- Lists of numbers that differ.
use Rattle.std.proofs.Common.{◌≡◌, ℕ, zero, suc, ◌+◌, ◌<◌, ◌≤◌, ◌^◌, Bool, true}
use Rattle.std.proofs.Common.{false, not, ◌&&◌, ◌||◌, List, [], ◌∷◌, ◌++◌, map, length}
use Rattle.std.proofs.Common.{refl, sym, ap, ◌∙◌, subst, arith}
use Rattle.std.proofs.lemmas.Bool.Decides.{nat_tests}
use Rattle.std.proofs.lemmas.List.{append-nil}
use Rattle.std.proofs.lemmas.List.Elements.{filter-append}
use Rattle.std.proofs.lemmas.List.Folds.{list_all-append, list_any-append}
use Rattle.std.specs.List.{list_all, list_any}
use Rattle.std.specs.Prelude.{filter, nat_eq, nat_lt, if◌then◌else◌}
use Rattle.std.proofs.lemmas.Bool.{and_from, not-true, or_from}
use Rattle.bl_tree.proofs.Basics.{and_first, and_second, less_from, less_test}
use Rattle.bl_machine.specs.Blocks.{up_to}
use Rattle.bl_emit_spec_laws_wellformed.specs.Names.{are_numbers}

abbrev under : ℕ → List ℕ → Bool
under n ks = list_all (λ k. nat_lt k n) ks

less_other : (k n : ℕ) → k < n → nat_eq k n ≡ false
less_other k n h = grind (arith, nat_tests)

-- ---- one more number

numbers_push : (n : ℕ) (ks : List ℕ) → n < 2 ^ 64 → are_numbers ks ≡ true → under n ks ≡ true → are_numbers (ks ++ n ∷ []) ≡ true
numbers_push n [] small all few = and_from (nat_lt n (2 ^ 64)) true (less_test n (2 ^ 64) small) refl
numbers_push n (k ∷ ks) small all few =
    let less : k < n = less_from k n (and_first (nat_lt k n) (under n ks) few) in
    let more = and_second (nat_lt k (2 ^ 64)) _ all in
    let new : list_any (nat_eq k) ks ≡ false = not-true (list_any (nat_eq k) ks) (and_first (not (list_any (nat_eq k) ks)) (are_numbers ks) more) in
    and_from (nat_lt k (2 ^ 64)) (not (list_any (nat_eq k) (ks ++ n ∷ [])) && are_numbers (ks ++ n ∷ [])) (and_first (nat_lt k (2 ^ 64)) _ all)
    (and_from (not (list_any (nat_eq k) (ks ++ n ∷ []))) (are_numbers (ks ++ n ∷ []))
    (ap not (list_any-append (nat_eq k) ks (n ∷ []) ∙ or_from (list_any (nat_eq k) ks) (nat_eq k n || false) new
    (or_from (nat_eq k n) false (less_other k n less) refl)))
    (numbers_push n ks small (and_second (not (list_any (nat_eq k) ks)) (are_numbers ks) more) (and_second (nat_lt k n) (under n ks) few)))

under_more : (n m : ℕ) (ks : List ℕ) → n ≤ m → under n ks ≡ true → under m ks ≡ true
under_more n m [] le all = refl
under_more n m (k ∷ ks) le all =
    let less : k < n = less_from k n (and_first (nat_lt k n) (under n ks) all) in
    let lt : k < m = grind (arith, nat_tests, less, le) in
    and_from (nat_lt k m) (under m ks) (less_test k m lt) (under_more n m ks le (and_second (nat_lt k n) (under n ks) all))

-- ---- some of the first numbers

record Some_of (n : ℕ) (ks : List ℕ) : Type 0 where
  numbers : are_numbers ks ≡ true
  few : under n ks ≡ true

filtered : (test : ℕ → Bool) (n : ℕ) → n ≤ 2 ^ 64 → Some_of n (filter test (up_to n))
filtered test zero le = record { numbers = refl; few = refl }
filtered test (suc n) le =
    let small : n < 2 ^ 64 = grind (arith, nat_tests, le) in
    let less : n ≤ 2 ^ 64 = grind (arith, nat_tests, le) in
    let more : n ≤ suc n = grind (arith, nat_tests) in
    let one = filtered test n less in
    subst (Some_of (suc n)) (sym (filter-append test (up_to n) (n ∷ []))) (by (test n) small more one)
  where
    by : (b : Bool) → n < 2 ^ 64 → n ≤ suc n → Some_of n (filter test (up_to n)) →
        Some_of (suc n) (filter test (up_to n) ++ (if b then n ∷ [] else []))
    by true small more one = record {
      numbers = numbers_push n (filter test (up_to n)) small one.numbers one.few;
      few = list_all-append (λ k. nat_lt k (suc n)) (filter test (up_to n)) (n ∷ [])
          ∙ and_from (under (suc n) (filter test (up_to n))) (nat_lt n (suc n) && true) (under_more n (suc n) (filter test (up_to n)) more one.few)
          (and_from (nat_lt n (suc n)) true (let lt : n < suc n = grind (arith, nat_tests) in less_test n (suc n) lt) refl);
    }
    by false small more one =
        subst (Some_of (suc n)) (sym (append-nil (filter test (up_to n))))
        (record { numbers = one.numbers; few = under_more n (suc n) (filter test (up_to n)) more one.few })

pub filtered-numbers : (test : ℕ → Bool) (n : ℕ) → n ≤ 2 ^ 64 → are_numbers (filter test (up_to n)) ≡ true
filtered-numbers test n le = (filtered test n le).numbers

filter_all : (ks : List ℕ) → filter (λ k. true) ks ≡ ks
filter_all [] = refl
filter_all (k ∷ ks) = ap (λ more. k ∷ more) (filter_all ks)

pub first-numbers : (n : ℕ) → n ≤ 2 ^ 64 → are_numbers (up_to n) ≡ true
first-numbers n le = ap are_numbers (sym (filter_all (up_to n))) ∙ filtered-numbers (λ k. true) n le

-- ---- positions

-- the positions of the elements that pass, where the first is at this one
abbrev pub positions : {X : Type 0} → (X → Bool) → ℕ → List X → List ℕ
positions test k [] = []
positions test k (x ∷ xs) = (if test x then k ∷ [] else []) ++ positions test (k + 1) xs

pub earlier-none : {X : Type 0} (test : X → Bool) (j k : ℕ) (xs : List X) → j < k → list_any (nat_eq j) (positions test k xs) ≡ false
earlier-none test j k [] less = refl
earlier-none test j k (x ∷ xs) less =
    let lt : j < k + 1 = grind (arith, nat_tests, less) in
    by (test x) (earlier-none test j (k + 1) xs lt)
  where
    by : (b : Bool) → list_any (nat_eq j) (positions test (k + 1) xs) ≡ false →
        list_any (nat_eq j) ((if b then k ∷ [] else []) ++ positions test (k + 1) xs) ≡ false
    by true rest = or_from (nat_eq j k) (list_any (nat_eq j) (positions test (k + 1) xs)) (less_other j k less) rest
    by false rest = rest

pub position-numbers : {X : Type 0} (test : X → Bool) (k : ℕ) (xs : List X) → k + length xs ≤ 2 ^ 64 →
    are_numbers (positions test k xs) ≡ true
position-numbers test k [] room = refl
position-numbers test k (x ∷ xs) room =
    let small : k < 2 ^ 64 = omega (arith, room) in
    let later : (k + 1) + length xs ≤ 2 ^ 64 = omega (arith, room) in
    let own : k < k + 1 = omega arith in
    by (test x) small (earlier-none test k (k + 1) xs own) (position-numbers test (k + 1) xs later)
  where
    by : (b : Bool) → k < 2 ^ 64 → list_any (nat_eq k) (positions test (k + 1) xs) ≡ false →
        are_numbers (positions test (k + 1) xs) ≡ true →
        are_numbers ((if b then k ∷ [] else []) ++ positions test (k + 1) xs) ≡ true
    by true small new rest =
        and_from (nat_lt k (2 ^ 64)) (not (list_any (nat_eq k) (positions test (k + 1) xs)) && are_numbers (positions test (k + 1) xs))
        (less_test k (2 ^ 64) small)
        (and_from (not (list_any (nat_eq k) (positions test (k + 1) xs))) (are_numbers (positions test (k + 1) xs)) (ap not new) rest)
    by false small new rest = rest

-- ---- some of the numbers of things

-- the numbers of those that pass
abbrev pub chosen : {X : Type 0} → (X → Bool) → (X → ℕ) → List X → List ℕ
chosen test number [] = []
chosen test number (x ∷ xs) = (if test x then number x ∷ [] else []) ++ chosen test number xs

chosen-none : {X : Type 0} (test : X → Bool) (number : X → ℕ) (k : ℕ) (xs : List X) → list_any (nat_eq k) (map number xs) ≡ false →
    list_any (nat_eq k) (chosen test number xs) ≡ false
chosen-none test number k [] none = refl
chosen-none test number k (x ∷ xs) none =
    by (test x) (chosen-none test number k xs (later (nat_eq k (number x)) (list_any (nat_eq k) (map number xs)) none))
  where
    later : (p q : Bool) → (p || q) ≡ false → q ≡ false
    later false q h = h
    later true q h = absurd (cc)

    first : (p q : Bool) → (p || q) ≡ false → p ≡ false
    first false q h = refl
    first true q h = absurd (cc)

    by : (b : Bool) → list_any (nat_eq k) (chosen test number xs) ≡ false →
        list_any (nat_eq k) ((if b then number x ∷ [] else []) ++ chosen test number xs) ≡ false
    by true rest =
        or_from (nat_eq k (number x)) (list_any (nat_eq k) (chosen test number xs))
        (first (nat_eq k (number x)) (list_any (nat_eq k) (map number xs)) none)
        rest
    by false rest = rest

pub chosen-numbers : {X : Type 0} (test : X → Bool) (number : X → ℕ) (xs : List X) → are_numbers (map number xs) ≡ true →
    are_numbers (chosen test number xs) ≡ true
chosen-numbers test number [] all = refl
chosen-numbers test number (x ∷ xs) all =
    let more = and_second (nat_lt (number x) (2 ^ 64)) _ all in
    let new : list_any (nat_eq (number x)) (map number xs) ≡ false =
    not-true (list_any (nat_eq (number x)) (map number xs))
    (and_first (not (list_any (nat_eq (number x)) (map number xs))) (are_numbers (map number xs)) more) in
    by (test x) (and_first (nat_lt (number x) (2 ^ 64)) _ all) (chosen-none test number (number x) xs new)
    (chosen-numbers test number xs (and_second (not (list_any (nat_eq (number x)) (map number xs))) (are_numbers (map number xs)) more))
  where
    by : (b : Bool) → nat_lt (number x) (2 ^ 64) ≡ true → list_any (nat_eq (number x)) (chosen test number xs) ≡ false →
        are_numbers (chosen test number xs) ≡ true → are_numbers ((if b then number x ∷ [] else []) ++ chosen test number xs) ≡ true
    by true small new rest =
        and_from (nat_lt (number x) (2 ^ 64)) (not (list_any (nat_eq (number x)) (chosen test number xs)) && are_numbers (chosen test number xs)) small
        (and_from (not (list_any (nat_eq (number x)) (chosen test number xs))) (are_numbers (chosen test number xs)) (ap not new) rest)
    by false small new rest = rest
