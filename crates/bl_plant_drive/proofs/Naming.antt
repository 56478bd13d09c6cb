-- Names and what they mean, one after the other.
use Rattle.std.proofs.Common.{◌≡◌, ◌⊎◌, inl, inr, ℕ, zero, suc, ◌+◌, ◌-◌, ◌<◌, ◌≤◌, ◌^◌, min, Bool}
use Rattle.std.proofs.Common.{true, false, ◌||◌, cond, List, [], ◌∷◌, ◌++◌}
use Rattle.std.proofs.Common.{length, map, take, drop, get_or, Some, None, is_some, nat_eq, refl, ap, sym, subst, ◌∙◌, append_assoc, arith, add-one}
use Rattle.std.proofs.Common.{take-suc, take_all, Result, Ok, Err}
use Rattle.std.specs.List.{IsDistinct, find, list_any, position_from, slice_get}
use Rattle.std.specs.Result.{IsErrAnd}
use Rattle.std.proofs.lemmas.Option.{get_or_from_slice_get}
use Rattle.std.proofs.lemmas.List.{length-map, take-append-drop}
use Rattle.std.proofs.Math.Nat.{min-eq_left, min-eq_right}
use Rattle.std.proofs.lemmas.Bool.{cases_lt}
use Rattle.bl_tree.proofs.Basics.{neither_first, neither_second, some_within}
use Rattle.bl_ctext_semantics.specs.Saturated.{saturated}
use Rattle.bl_plant_drive.specs.Drives.{AreThere, widths_of, plant_width}
use Rattle.bl_plant_drive.specs.Roles.{first_named}
use Rattle.bl_plant_drive.specs.declared.fault.DriveFault.{DriveFault}
use Rattle.bl_plant_drive.specs.declared.fault.DriveFault.TheVariants as fault
use Rattle.bl_plant_drive.specs.inner.Names.{AreDistinct, AreMeant, AreNamed, HasAbsent, HasTwice}
use Rattle.bl_plant_drive.proofs.Casts.{eq-flip, split}
use Rattle.bl_plant_drive.proofs.Lists.{seen-at}
use Rattle.bl_plant_drive.proofs.Playing.{all-snoc}
use Rattle.bl_plant.specs.Plants.{PlantView}

-- ---- where a plant is found

-- the some_within that passes, where it is known where it stands
pub found-at : {A : Type 0} (t : A → Bool) (xs : List A) (i at : ℕ) → position_from t i xs ≡ Some at →
    (j : ℕ) × ((at ≡ i + j) × ((j < length xs) × (find t xs ≡ slice_get xs j)))
found-at t [] i at e = cc
found-at t (x ∷ xs) i at e = split (t x)
    (λ passes.
    let is = same-some i at (sym (ap (λ b. cond b (Some i) (position_from t (i + 1) xs)) passes) ∙ e) in
    (0, (omega (arith, is), (omega arith, ap (λ b. cond b (Some x) (find t xs)) passes))))
    (λ fails.
    let later = found-at t xs (i + 1) at (sym (ap (λ b. cond b (Some i) (position_from t (i + 1) xs)) fails) ∙ e) in
    let low = later.1.1.0 in
    let is = later.1.0 in
    (suc later.0, (omega (arith, is), (omega (arith, low), ap (λ b. cond b (Some x) (find t xs)) fails ∙ later.1.1.1))))
  where
    same-some : (a b : ℕ) → Some a ≡ Some b → a ≡ b
    same-some a b e = cc

pub found-none : {A : Type 0} (t : A → Bool) (xs : List A) (i : ℕ) → position_from t i xs ≡ None → find t xs ≡ None
found-none t [] i e = refl
found-none t (x ∷ xs) i e = split (t x)
    (λ passes. let bad = sym (ap (λ b. cond b (Some i) (position_from t (i + 1) xs)) passes) ∙ e in cc)
    (λ fails.
    ap (λ b. cond b (Some x) (find t xs)) fails
    ∙ found-none t xs (i + 1) (sym (ap (λ b. cond b (Some i) (position_from t (i + 1) xs)) fails) ∙ e))

-- what is there at a place that was found
pub named-at : (plants : List PlantView) (name at : ℕ) → Some at ≡ position_from (λ (p : PlantView). nat_eq p.name name) 0 plants →
    (at < length plants) × (first_named name plants ≡ slice_get plants at)
named-at plants name at e =
    let found = found-at (λ (p : PlantView). nat_eq p.name name) plants 0 at (sym e) in
    let is : at ≡ found.0 = let z = found.1.0 in omega (arith, z) in
    (subst (λ n. n < length plants) (sym is) found.1.1.0, found.1.1.1 ∙ ap (slice_get plants) (sym is))

pub named-none : (plants : List PlantView) (name : ℕ) → None ≡ position_from (λ (p : PlantView). nat_eq p.name name) 0 plants →
    first_named name plants ≡ None
named-none plants name e = found-none (λ (p : PlantView). nat_eq p.name name) plants 0 (sym e)

pub named-some : (plants : List PlantView) (name at : ℕ) → Some at ≡ position_from (λ (p : PlantView). nat_eq p.name name) 0 plants →
    is_some (first_named name plants) ≡ true
named-some plants name at e =
    let n = named-at plants name at e in
    let x = some_within plants at n.0 in
    ap is_some (n.1 ∙ x.1)

-- the width of what is there
pub named-width : (plants : List PlantView) (name at width : ℕ) → Some at ≡ position_from (λ (p : PlantView). nat_eq p.name name) 0 plants →
    ((p : PlantView) → slice_get plants at ≡ Some p → width ≡ p.width) → width ≡ plant_width (first_named name plants)
named-width plants name at width e told =
    let n = named-at plants name at e in
    let x = some_within plants at n.0 in
    told x.0 x.1 ∙ sym (ap plant_width (n.1 ∙ x.1))

-- it is within the list
pub within-place : {A : Type 0} (f : A → PlantView) (xs : List A) (name at : ℕ) →
    Some at ≡ position_from (λ (p : PlantView). nat_eq p.name name) 0 (map f xs) → at < length xs
within-place f xs name at e = subst (λ n. at < n) (length-map xs f) (named-at (map f xs) name at e).0

-- ---- lists up to a place

-- the next of the names
pub next-name : {A : Type 0} (f : A → ℕ) (xs : List A) (k : ℕ) (x : A) → k < length xs → x ≡ get_or xs k x →
    take (k + 1) (map f xs) ≡ take k (map f xs) ++ f x ∷ []
next-name f xs k x low is =
    ap (λ n. take n (map f xs)) (add-one k)
    ∙ take-suc (map f xs) k (f x) (subst (λ n. k < n) (sym (length-map xs f)) low)
    ∙ ap (λ z. take k (map f xs) ++ z ∷ []) (get_or_from_slice_get (map f xs) k (f x) (f x) (seen-at f xs k x low is))

-- the names around it
pub around-name : {A : Type 0} (f : A → ℕ) (xs : List A) (k : ℕ) (x : A) → k < length xs → x ≡ get_or xs k x →
    map f xs ≡ take k (map f xs) ++ f x ∷ drop (k + 1) (map f xs)
around-name f xs k x low is =
    sym (take-append-drop (k + 1) (map f xs)) ∙ ap (λ z. z ++ drop (k + 1) (map f xs)) (next-name f xs k x low is)
    ∙ append_assoc (take k (map f xs)) (f x ∷ []) (drop (k + 1) (map f xs))

pub all-names : {A : Type 0} (f : A → ℕ) (xs : List A) (k : ℕ) → length xs ≤ k → take k (map f xs) ≡ map f xs
all-names f xs k past = take_all k (map f xs) (subst (λ n. n ≤ k) (sym (length-map xs f)) past)

-- ---- names that mean plants

pub absent-here : {A : Type 0} (f : A → ℕ) (plants : List PlantView) (xs : List A) (k : ℕ) (x : A) → k < length xs → x ≡ get_or xs k x →
    AreThere plants (take k (map f xs)) → first_named (f x) plants ≡ None → HasAbsent plants (map f xs) (f x)
absent-here f plants xs k x low is there none = record {
  earlier = take k (map f xs);
  later = drop (k + 1) (map f xs);
  names_are = around-name f xs k x low is;
  there = there;
  none = none;
}

pub there-more : {A : Type 0} (f : A → ℕ) (plants : List PlantView) (xs : List A) (k : ℕ) (x : A) → k < length xs → x ≡ get_or xs k x →
    AreThere plants (take k (map f xs)) → is_some (first_named (f x) plants) ≡ true → AreThere plants (take (k + 1) (map f xs))
there-more f plants xs k x low is there some =
    subst (AreThere plants) (sym (next-name f xs k x low is))
    (all-snoc (λ name. is_some (first_named name plants) ≡ true) (take k (map f xs)) (f x) there some)

pub there-all : {A : Type 0} (f : A → ℕ) (plants : List PlantView) (xs : List A) (k : ℕ) → length xs ≤ k → AreThere plants (take k (map f xs)) →
    AreThere plants (map f xs)
there-all f plants xs k past there = subst (AreThere plants) (all-names f xs k past) there

-- the same by where the plant is found
pub absent-found : {A : Type 0} (f : A → ℕ) (plants : List PlantView) (xs : List A) (k : ℕ) (x : A) → k < length xs → x ≡ get_or xs k x →
    AreThere plants (take k (map f xs)) → None ≡ position_from (λ (p : PlantView). nat_eq p.name (f x)) 0 plants → HasAbsent plants (map f xs) (f x)
absent-found f plants xs k x low is there none = absent-here f plants xs k x low is there (named-none plants (f x) none)

pub there-found : {A : Type 0} (f : A → ℕ) (plants : List PlantView) (xs : List A) (k : ℕ) (x : A) (at : ℕ) → k < length xs → x ≡ get_or xs k x →
    AreThere plants (take k (map f xs)) → Some at ≡ position_from (λ (p : PlantView). nat_eq p.name (f x)) 0 plants →
    AreThere plants (take (k + 1) (map f xs))
there-found f plants xs k x at low is there found = there-more f plants xs k x low is there (named-some plants (f x) at found)

-- ---- names that are distinct

pub twice-here : {A : Type 0} (f : A → ℕ) (xs : List A) (k : ℕ) (x : A) → k < length xs → x ≡ get_or xs k x →
    IsDistinct nat_eq (take k (map f xs)) → true ≡ list_any (nat_eq (f x)) (take k (map f xs)) → HasTwice (map f xs) (f x)
twice-here f xs k x low is apart again = record {
  earlier = take k (map f xs);
  later = drop (k + 1) (map f xs);
  names_are = around-name f xs k x low is;
  distinct = apart;
  again = sym again;
}

distinct-snoc : (names : List ℕ) (n : ℕ) → IsDistinct nat_eq names → list_any (nat_eq n) names ≡ false → IsDistinct nat_eq (names ++ n ∷ [])
unfolding IsDistinct
distinct-snoc [] n apart none = (tt, tt)
distinct-snoc (m ∷ names) n apart none = (
  all-snoc (λ y. nat_eq m y ≡ false) names n apart.0 (eq-flip n m (neither_first (nat_eq n m) (list_any (nat_eq n) names) none)),
  distinct-snoc names n apart.1 (neither_second (nat_eq n m) (list_any (nat_eq n) names) none),
)

distinct-none : IsDistinct nat_eq []
unfolding IsDistinct
distinct-none = tt

pub distinct-begun : {A : Type 0} (f : A → ℕ) (xs : List A) → IsDistinct nat_eq (take 0 (map f xs))
distinct-begun f xs = distinct-none

pub distinct-more : {A : Type 0} (f : A → ℕ) (xs : List A) (k : ℕ) (x : A) → k < length xs → x ≡ get_or xs k x →
    IsDistinct nat_eq (take k (map f xs)) → false ≡ list_any (nat_eq (f x)) (take k (map f xs)) → IsDistinct nat_eq (take (k + 1) (map f xs))
distinct-more f xs k x low is apart none =
    subst (IsDistinct nat_eq) (sym (next-name f xs k x low is)) (distinct-snoc (take k (map f xs)) (f x) apart (sym none))

pub distinct-all : {A : Type 0} (f : A → ℕ) (xs : List A) (k : ℕ) → length xs ≤ k → IsDistinct nat_eq (take k (map f xs)) →
    IsDistinct nat_eq (map f xs)
distinct-all f xs k past apart = subst (IsDistinct nat_eq) (all-names f xs k past) apart

-- a name among others, whichever way these are told
any-taken : {A : Type 0} (f : A → ℕ) (n k : ℕ) (xs : List A) → list_any (λ x. nat_eq n (f x)) (take k xs) ≡ list_any (nat_eq n) (take k (map f xs))
any-taken f n zero xs = refl
any-taken f n (suc k) [] = refl
any-taken f n (suc k) (x ∷ xs) = ap (λ b. nat_eq n (f x) || b) (any-taken f n k xs)

pub among : {A : Type 0} (f : A → ℕ) (xs : List A) (k : ℕ) (x : A) (found b : Bool) → found ≡ list_any (λ y. nat_eq (f x) (f y)) (take k xs) →
    found ≡ b → b ≡ list_any (nat_eq (f x)) (take k (map f xs))
among f xs k x found b told is = sym is ∙ told ∙ any-taken f (f x) k xs

-- ---- both tests

pub meant-fails : (plants : List PlantView) (names : List ℕ) (e : DriveFault) (r : Result (Unit {0}) DriveFault) → IsErrAnd r (λ x. x ≡ e) →
    AreMeant plants names (Err e) → AreNamed plants names r
meant-fails plants names e (Ok u) is bad = absurd is
meant-fails plants names e (Err x) is bad = by x (subst (λ y. AreMeant plants names (Err y)) (sym is) bad)
  where
    by : (x : DriveFault) → AreMeant plants names (Err x) → AreNamed plants names (Err x)
    by (fault.Absent name) bad = bad
    by (fault.Failed name) bad = bad
    by (fault.Twice name) bad = absurd bad
    by (fault.Width given wanted) bad = bad
    by (fault.Range column number) bad = bad
    by fault.NoMemory bad = bad

pub both-named : (plants : List PlantView) (names : List ℕ) (r : Result (Unit {0}) DriveFault) → AreThere plants names → AreDistinct names r →
    AreNamed plants names r
both-named plants names (Ok u) there apart = (there, apart)
both-named plants names (Err (fault.Twice name)) there bad = (there, bad)
both-named plants names (Err (fault.Absent name)) there bad = absurd bad
both-named plants names (Err (fault.Failed name)) there bad = bad
both-named plants names (Err (fault.Width given wanted)) there bad = bad
both-named plants names (Err (fault.Range column number)) there bad = bad
both-named plants names (Err fault.NoMemory) there bad = bad

-- ---- widths

widths-snoc : (plants : List PlantView) (names : List ℕ) (n : ℕ) → widths_of plants (names ++ n ∷ [])
    ≡ widths_of plants names + plant_width (first_named n plants)
widths-snoc plants [] n = omega arith
widths-snoc plants (m ∷ names) n =
    ap (λ z. plant_width (first_named m plants) + z) (widths-snoc plants names n)
    ∙ add-assoc (plant_width (first_named m plants)) (widths_of plants names) (plant_width (first_named n plants))
  where
    add-assoc : (a b c : ℕ) → a + (b + c) ≡ (a + b) + c
    add-assoc a b c = omega arith

either-way : (m n : ℕ) → (m ≤ n) ⊎ (n ≤ m)
either-way m n = elim (cases_lt m n) [
  | inl low ↦ inl (omega (arith, low))
  | inr high ↦ inr high
]

capped-by : (a b c most : ℕ) → a ≡ min c most → (c ≤ most) ⊎ (most ≤ c) → min (a + b) most ≡ min (c + b) most
capped-by a b c most e (inl low) = ap (λ z. min (z + b) most) (e ∙ min-eq_left low)
capped-by a b c most e (inr high) =
    ap (λ z. min (z + b) most) (e ∙ min-eq_right high)
    ∙ min-eq_right (let h = high in let le : most ≤ most + b = omega arith in le)
    ∙ sym (min-eq_right (let h = high in let le : most ≤ c + b = omega (arith, h) in le))

capped-more : (a b c most : ℕ) → a ≡ min c most → min (a + b) most ≡ min (c + b) most
capped-more a b c most e = capped-by a b c most e (either-way c most)

pub widths-more : {A : Type 0} (f : A → ℕ) (plants : List PlantView) (xs : List A) (k : ℕ) (x : A) (sum width : ℕ) → k < length xs →
    x ≡ get_or xs k x → sum ≡ saturated (widths_of plants (take k (map f xs))) → width ≡ plant_width (first_named (f x) plants) →
    min (sum + width) (2 ^ 64 - 1) ≡ saturated (widths_of plants (take (k + 1) (map f xs)))
widths-more f plants xs k x sum width low is so_far own =
    capped-more sum width (widths_of plants (take k (map f xs))) (2 ^ 64 - 1) so_far
    ∙ ap (λ w. saturated (widths_of plants (take k (map f xs)) + w)) own
    ∙ ap saturated (sym (widths-snoc plants (take k (map f xs)) (f x)))
    ∙ ap (λ z. saturated (widths_of plants z)) (sym (next-name f xs k x low is))

pub widths-all : {A : Type 0} (f : A → ℕ) (plants : List PlantView) (xs : List A) (k sum : ℕ) → length xs ≤ k →
    sum ≡ saturated (widths_of plants (take k (map f xs))) → sum ≡ saturated (widths_of plants (map f xs))
widths-all f plants xs k sum past so_far = so_far ∙ ap (λ z. saturated (widths_of plants z)) (all-names f xs k past)
