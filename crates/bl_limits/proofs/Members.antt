-- What stands in the lists of failures.
use Rattle.std.proofs.Common.{◌≡◌, ℕ, ◌<◌, ◌≤◌, zero, suc, true, false, cond, List, [], ◌∷◌, ◌++◌, map, drop, ◌⊎◌, inl, inr, ⊎_elim, Option, Some, None, refl}
use Rattle.std.proofs.Common.{sym, subst, arith}
use Rattle.std.specs.Prelude.{nat_lt, slice_get, slice_index}
use Rattle.std.proofs.lemmas.Bool.Decides.{nat_tests}
use Rattle.bl_tree.proofs.Basics.{same_some}
use Rattle.bl_tree.specs.declared.place.Place.{Place}
use Rattle.bl_tree.specs.declared.rule.Failure.{Failure}
use Rattle.bl_tree.specs.declared.rule.Rule.{Rule}
use Rattle.bl_tree.specs.declared.tree.Unit.{Unit as UnitDef}
use Rattle.bl_tree.specs.Reduce.{joined}
use Rattle.bl_tree.proofs.FirstLemmas.{In}
use Rattle.bl_limits.specs.inner.Failures.{above, at_unit, failure_at, numbered}

pub in_append : {A : Type 0} (x : A) (xs ys : List A) → In x (xs ++ ys) → In x xs ⊎ In x ys
in_append x [] ys h = inr h
in_append x (y ∷ xs) ys h =
    ⊎_elim (λ is. inl (inl is)) (λ later. ⊎_elim (λ l. inl (inr l)) (λ r. inr r) (in_append x xs ys later)) h

pub append_left : {A : Type 0} (x : A) (xs ys : List A) → In x xs → In x (xs ++ ys)
append_left x [] ys h = absurd h
append_left x (y ∷ xs) ys h = ⊎_elim (λ is. inl is) (λ later. inr (append_left x xs ys later)) h

pub append_right : {A : Type 0} (x : A) (xs ys : List A) → In x ys → In x (xs ++ ys)
append_right x [] ys h = h
append_right x (y ∷ xs) ys h = inr (append_right x xs ys h)

-- what stands in one of several lists
pub in_joined : {A X : Type 0} (f : X → List A) (a : A) (xs : List X) → In a (joined (map f xs)) → (x : X) × In x xs × In a (f x)
in_joined f a [] h = absurd h
in_joined f a (x ∷ xs) h =
    ⊎_elim (λ here. (x, inl refl, here)) (λ later. let found = in_joined f a xs later in (found.0, inr found.1, found.2))
    (in_append a (f x) (joined (map f xs)) h)

pub joined_in : {A X : Type 0} (f : X → List A) (a : A) (x : X) (xs : List X) → In x xs → In a (f x) → In a (joined (map f xs))
joined_in f a x [] there h = absurd there
joined_in f a x (y ∷ xs) there h =
    ⊎_elim (λ is. append_left a (f y) (joined (map f xs)) (subst (λ z. In a (f z)) is h))
    (λ later. append_right a (f y) (joined (map f xs)) (joined_in f a x xs later h)) there

-- ---- a number above its limit

pub in_above : (limit n : ℕ) (failure x : Failure) → In x (above limit n failure) → (limit < n) × (x ≡ failure)
in_above limit n failure x h =
    elim (nat_lt limit n) as (λ test. nat_lt limit n ≡ test → In x (cond test (failure ∷ []) []) → (limit < n) × (x ≡ failure)) [
      | false ↦ λ is none. absurd none
      | true ↦ λ is here. (grind (arith, nat_tests), ⊎_elim (λ same. same) (λ none. absurd none) here)
    ] refl h

pub above_in : (limit n : ℕ) (failure : Failure) → limit < n → In failure (above limit n failure)
above_in limit n failure less =
    let is : nat_lt limit n ≡ true = grind (arith, nat_tests) in
    subst (λ test. In failure (cond test (failure ∷ []) [])) (sym is) (inl refl)

-- ---- a number of a unit

pub in_at_unit : (rule : Rule) (limit n : ℕ) (found : Option UnitDef) (x : Failure) → In x (at_unit rule limit n found)
    → (unit : UnitDef) × (found ≡ Some unit) × (limit < n) × (x ≡ failure_at rule unit.place)
in_at_unit rule limit n (Some unit) x h = let is = in_above limit n (failure_at rule unit.place) x h in (unit, refl, is.0, is.1)
in_at_unit rule limit n None x h = absurd h

pub at_unit_in : (rule : Rule) (limit n : ℕ) (found : Option UnitDef) (unit : UnitDef) → found ≡ Some unit → limit < n
    → In (failure_at rule unit.place) (at_unit rule limit n found)
at_unit_in rule limit n found unit is less =
    subst (λ o. In (failure_at rule unit.place) (at_unit rule limit n o)) (sym is) (above_in limit n (failure_at rule unit.place) less)

-- ---- numbers of elements

pub in_numbered : {A : Type 0} (rule : Rule) (limit : ℕ) (place : A → Place) (xs : List A) (numbers : List ℕ) (x : Failure)
    → In x (numbered rule limit place xs numbers)
    → (k : ℕ) × (a : A) × (slice_get xs k ≡ Some a) × (limit < slice_index numbers k) × (x ≡ failure_at rule (place a))
in_numbered rule limit place [] numbers x h = absurd h
in_numbered rule limit place (a ∷ rest) [] x h = absurd h
in_numbered rule limit place (a ∷ rest) (n ∷ numbers) x h =
    ⊎_elim (λ here. let is = in_above limit n (failure_at rule (place a)) x here in (zero, a, refl, is.0, is.1))
    (λ later. let found = in_numbered rule limit place rest numbers x later in (suc found.0, found.1, found.2, found.3, found.4))
    (in_append x (above limit n (failure_at rule (place a))) (numbered rule limit place rest numbers) h)

pub numbered_in : {A : Type 0} (rule : Rule) (limit : ℕ) (place : A → Place) (xs : List A) (numbers : List ℕ) (k : ℕ) (a : A)
    → slice_get xs k ≡ Some a → limit < slice_index numbers k → In (failure_at rule (place a)) (numbered rule limit place xs numbers)
numbered_in rule limit place [] numbers k a there less = absurd (cc)
numbered_in rule limit place (x ∷ rest) [] k a there less = absurd (omega arith)
numbered_in rule limit place (x ∷ rest) (n ∷ numbers) zero a there less =
    let is : x ≡ a = same_some x a there in
    append_left (failure_at rule (place a)) (above limit n (failure_at rule (place x))) (numbered rule limit place rest numbers)
    (subst (λ y. In (failure_at rule (place a)) (above limit n (failure_at rule (place y)))) (sym is) (above_in limit n (failure_at rule (place a)) less))
numbered_in rule limit place (x ∷ rest) (n ∷ numbers) (suc k) a there less =
    append_right (failure_at rule (place a)) (above limit n (failure_at rule (place x))) (numbered rule limit place rest numbers)
    (numbered_in rule limit place rest numbers k a there less)

-- numbers of the elements from a position on
numbered_nothing : {A : Type 0} (rule : Rule) (limit : ℕ) (place : A → Place) (xs : List A) (x : Failure) → In x (numbered rule limit place xs []) → ⊥
numbered_nothing rule limit place [] x h = h
numbered_nothing rule limit place (a ∷ rest) x h = h

pub in_later : {A : Type 0} (rule : Rule) (limit : ℕ) (place : A → Place) (from : ℕ) (xs : List A) (numbers : List ℕ) (x : Failure)
    → In x (numbered rule limit place (drop from xs) (drop from numbers))
    → (k : ℕ) × (a : A) × (from ≤ k) × (slice_get xs k ≡ Some a) × (limit < slice_index numbers k) × (x ≡ failure_at rule (place a))
in_later rule limit place zero xs numbers x h =
    let found = in_numbered rule limit place xs numbers x h in (found.0, found.1, omega arith, found.2, found.3, found.4)
in_later rule limit place (suc from) [] numbers x h = absurd h
in_later rule limit place (suc from) (a ∷ xs) [] x h = absurd (numbered_nothing rule limit place (drop from xs) x h)
in_later rule limit place (suc from) (a ∷ xs) (n ∷ numbers) x h =
    let found = in_later rule limit place from xs numbers x h in
    let later : from ≤ found.0 = found.2 in
    (suc found.0, found.1, omega (arith, later), found.3, found.4, found.5)

pub later_in : {A : Type 0} (rule : Rule) (limit : ℕ) (place : A → Place) (from : ℕ) (xs : List A) (numbers : List ℕ) (k : ℕ) (a : A) → from ≤ k
    → slice_get xs k ≡ Some a → limit < slice_index numbers k → In (failure_at rule (place a)) (numbered rule limit place (drop from xs) (drop from numbers))
later_in rule limit place zero xs numbers k a within there less = numbered_in rule limit place xs numbers k a there less
later_in rule limit place (suc from) xs numbers zero a within there less = absurd (omega (arith, within))
later_in rule limit place (suc from) [] numbers (suc k) a within there less = absurd (cc)
later_in rule limit place (suc from) (x ∷ xs) [] (suc k) a within there less = absurd (omega (arith, less))
later_in rule limit place (suc from) (x ∷ xs) (n ∷ numbers) (suc k) a within there less =
    later_in rule limit place from xs numbers k a (omega (arith, within)) there less
