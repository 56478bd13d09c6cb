-- Elements of lists that are made from others, or from numbers.
use Rattle.std.proofs.Common.{◌≡◌, ℕ, zero, suc, ◌<◌, inl, inr, List, [], ◌∷◌, ◌++◌, refl, sym, ap, subst, ◌∙◌, append_assoc, arith}
use Rattle.std.specs.Prelude.{Contains, flat_map}
use Rattle.std.proofs.lemmas.Bool.{cases_eq}
use Rattle.std.proofs.lemmas.List.Elements.{Contains-append_cases, Contains-append_left, Contains-append_right, Contains-push}
use Rattle.bl_tree.proofs.Basics.{contains_none, contains_one}
use Rattle.bl_graph.specs.inner.Noted.{upto}

pub one_in : {A : Type 0} (x : A) → Contains (x ∷ []) x
one_in x = Contains-push [] x

pub one_like : {A : Type 0} (x y : A) → x ≡ y → Contains (x ∷ []) y
one_like x y is = subst (Contains (x ∷ [])) is (one_in x)

-- ---- made of elements

pub each-append : {A B : Type 0} (f : A → List B) (xs ys : List A) → flat_map f (xs ++ ys) ≡ flat_map f xs ++ flat_map f ys
each-append f [] ys = refl
each-append f (x ∷ xs) ys = ap (λ rest. f x ++ rest) (each-append f xs ys) ∙ sym (append_assoc (f x) (flat_map f xs) (flat_map f ys))

pub each_from : {A B : Type 0} (f : A → List B) (xs : List A) (y : B) → Contains (flat_map f xs) y → (x : A) × Contains xs x × Contains (f x) y
each_from f [] y there = absurd (contains_none y there)
each_from f (x ∷ xs) y there = elim (Contains-append_cases (f x) (flat_map f xs) y there) [
  | inl here ↦ (x, Contains-append_left (x ∷ []) xs x (one_in x), here)
  | inr more ↦ let later = each_from f xs y more in (later.0, Contains-append_right (x ∷ []) xs later.0 later.1, later.2)
]

pub each_to : {A B : Type 0} (f : A → List B) (xs : List A) (x : A) (y : B) → Contains xs x → Contains (f x) y → Contains (flat_map f xs) y
each_to f [] x y there made = absurd (contains_none x there)
each_to f (z ∷ xs) x y there made = elim (Contains-append_cases (z ∷ []) xs x there) [
  | inl here ↦ Contains-append_left (f z) (flat_map f xs) y (subst (λ w. Contains (f w) y) (sym (contains_one z x here)) made)
  | inr more ↦ Contains-append_right (f z) (flat_map f xs) y (each_to f xs x y more made)
]

-- ---- made of numbers

pub upto_from : {A : Type 0} (f : ℕ → List A) (n : ℕ) (x : A) → Contains (upto f n) x → (k : ℕ) × (k < n) × Contains (f k) x
upto_from f zero x there = absurd (contains_none x there)
upto_from f (suc n) x there = elim (Contains-append_cases (upto f n) (f n) x there) [
  | inl before ↦ let earlier = upto_from f n x before in (earlier.0, lt_more earlier.0 n earlier.1, earlier.2)
  | inr last ↦ (n, lt_last n, last)
]
  where
    lt_more : (k n : ℕ) → k < n → k < suc n
    lt_more k n lt = omega arith

    lt_last : (n : ℕ) → n < suc n
    lt_last n = omega arith

pub upto_to : {A : Type 0} (f : ℕ → List A) (n k : ℕ) (x : A) → k < n → Contains (f k) x → Contains (upto f n) x
upto_to f zero k x lt made = absurd (no_lt k lt)
  where
    no_lt : (k : ℕ) → k < zero → ⊥
    no_lt k lt = omega arith
upto_to f (suc n) k x lt made = elim (cases_eq k n) [
  | inl same ↦ Contains-append_right (upto f n) (f n) x (subst (λ j. Contains (f j) x) same made)
  | inr other ↦ Contains-append_left (upto f n) (f n) x (upto_to f n k x (lt_less k n lt other) made)
]
  where
    lt_less : (k n : ℕ) → k < suc n → (k ≡ n → ⊥) → k < n
    lt_less k n lt other = omega arith
