-- Which numbers stand in lists of those below a bound.
use Rattle.std.proofs.Common.{◌≡◌, ℕ, zero, suc, ◌<◌, arith, Bool, true, false, ◌&&◌, ◌||◌, List, [], ◌∷◌}
use Rattle.std.proofs.Common.{◌++◌, refl, sym, ap, ◌∙◌}
use Rattle.std.proofs.lemmas.Bool.{eq-eqb, eqb-true}
use Rattle.std.specs.Prelude.{filter, nat_eq, if◌then◌else◌}
use Rattle.std.specs.List.{list_all, list_any}
use Rattle.std.proofs.lemmas.Bool.{or_left, or_right}
use Rattle.bl_tree.proofs.Basics.{true_not_false}
use Rattle.bl_machine.specs.Blocks.{up_to}

either : (a b : Bool) (P : Type 0) → (a || b) ≡ true → (a ≡ true → P) → (b ≡ true → P) → P
either true b P h first second = first refl
either false b P h first second = second h

any_front : (test : ℕ → Bool) (xs ys : List ℕ) → list_any test xs ≡ true → list_any test (xs ++ ys) ≡ true
any_front test [] ys h = absurd (cc)
any_front test (x ∷ xs) ys h =
    either (test x) (list_any test xs) (list_any test ((x ∷ xs) ++ ys) ≡ true) h (λ is. or_left (test x) (list_any test (xs ++ ys)) is)
    (λ is. or_right (test x) (list_any test (xs ++ ys)) (any_front test xs ys is))

any_behind : (test : ℕ → Bool) (xs ys : List ℕ) → list_any test ys ≡ true → list_any test (xs ++ ys) ≡ true
any_behind test [] ys h = h
any_behind test (x ∷ xs) ys h = or_right (test x) (list_any test (xs ++ ys)) (any_behind test xs ys h)

any_either : (test : ℕ → Bool) (xs ys : List ℕ) (P : Type 0) → list_any test (xs ++ ys) ≡ true → (list_any test xs ≡ true → P) →
    (list_any test ys ≡ true → P) → P
any_either test [] ys P h first second = second h
any_either test (x ∷ xs) ys P h first second =
    either (test x) (list_any test (xs ++ ys)) P h (λ is. first (or_left (test x) (list_any test xs) is))
    (λ is. any_either test xs ys P is (λ more. first (or_right (test x) (list_any test xs) more)) second)

less_other : (n k : ℕ) → k < suc n → nat_eq k n ≡ false → k < n
less_other n k less is = by (λ same. true_not_false (sym (eq-eqb k n same) ∙ is))
  where
    by : (k ≡ n → ⊥) → k < n
    by differ = omega (arith, less, differ)

-- each number below the bound
pub below_there : (n k : ℕ) → k < n → list_any (nat_eq k) (up_to n) ≡ true
below_there zero k less = absurd (omega (arith, less))
below_there (suc n) k less = by (nat_eq k n) refl (below_there n k)
  where
    by : (same : Bool) → nat_eq k n ≡ same → (k < n → list_any (nat_eq k) (up_to n) ≡ true) →
        list_any (nat_eq k) (up_to n ++ n ∷ []) ≡ true
    by true is again = any_behind (nat_eq k) (up_to n) (n ∷ []) (or_left (nat_eq k n) false is)
    by false is again = any_front (nat_eq k) (up_to n) (n ∷ []) (again (less_other n k less is))

-- and no other
pub there_below : (n k : ℕ) → list_any (nat_eq k) (up_to n) ≡ true → k < n
there_below zero k h = absurd (cc)
there_below (suc n) k h =
    any_either (nat_eq k) (up_to n) (n ∷ []) (k < suc n) h
    (λ first. let less : k < n = there_below n k first in omega (arith, less))
    (λ last. either (nat_eq k n) false (k < suc n) last (λ is. let same : k ≡ n = eqb-true k n is in omega (arith, same)) (λ none. absurd (cc)))

-- those of a list that pass a test
pub picked_there : (test : ℕ → Bool) (xs : List ℕ) (k : ℕ) → test k ≡ true → list_any (nat_eq k) xs ≡ true →
    list_any (nat_eq k) (filter test xs) ≡ true
picked_there test [] k passes h = absurd (cc)
picked_there test (x ∷ xs) k passes h = by (test x) refl (picked_there test xs k passes)
  where
    by : (b : Bool) → test x ≡ b → (list_any (nat_eq k) xs ≡ true → list_any (nat_eq k) (filter test xs) ≡ true) →
        list_any (nat_eq k) (if b then x ∷ filter test xs else filter test xs) ≡ true
    by true is again =
        either (nat_eq k x) (list_any (nat_eq k) xs) (list_any (nat_eq k) (x ∷ filter test xs) ≡ true) h
        (λ same. or_left (nat_eq k x) (list_any (nat_eq k) (filter test xs)) same)
        (λ more. or_right (nat_eq k x) (list_any (nat_eq k) (filter test xs)) (again more))
    by false is again =
        either (nat_eq k x) (list_any (nat_eq k) xs) (list_any (nat_eq k) (filter test xs) ≡ true) h
        (λ same. absurd (true_not_false (sym passes ∙ (ap test (eqb-true k x same) ∙ is)))) again

pub there_picked : (test : ℕ → Bool) (xs : List ℕ) (k : ℕ) → list_any (nat_eq k) (filter test xs) ≡ true
    → (test k ≡ true) × (list_any (nat_eq k) xs ≡ true)
there_picked test [] k h = absurd (cc)
there_picked test (x ∷ xs) k h = by (test x) refl (there_picked test xs k) h
  where
    by : (b : Bool) → test x ≡ b → (list_any (nat_eq k) (filter test xs) ≡ true →
        (test k ≡ true) × (list_any (nat_eq k) xs ≡ true)) →
        list_any (nat_eq k) (if b then x ∷ filter test xs else filter test xs) ≡ true →
        (test k ≡ true) × (list_any (nat_eq k) (x ∷ xs) ≡ true)
    by true is again all =
        either (nat_eq k x) (list_any (nat_eq k) (filter test xs)) ((test k ≡ true) × (list_any (nat_eq k) (x ∷ xs) ≡ true)) all
        (λ same. (ap test (eqb-true k x same) ∙ is, or_left (nat_eq k x) (list_any (nat_eq k) xs) same))
        (λ more. let rest = again more in (rest.0, or_right (nat_eq k x) (list_any (nat_eq k) xs) rest.1))
    by false is again all = let rest = again all in (rest.0, or_right (nat_eq k x) (list_any (nat_eq k) xs) rest.1)

-- what is said of each number in a list
pub all_said : (test : ℕ → Bool) (xs : List ℕ) → ((k : ℕ) → list_any (nat_eq k) xs ≡ true → test k ≡ true) →
    list_all test xs ≡ true
all_said test [] each = refl
all_said test (x ∷ xs) each =
    ap (λ b. b && list_all test xs) (each x (or_left (nat_eq x x) (list_any (nat_eq x) xs) (eq-eqb x x refl)))
    ∙ all_said test xs (λ k is. each k (or_right (nat_eq k x) (list_any (nat_eq k) xs) is))
