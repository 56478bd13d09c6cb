-- Positions of constants behind one file more.
use Rattle.std.proofs.Common.{◌≡◌, ◌∙◌, ℕ, zero, suc, ◌+◌, ◌-◌, ◌<◌, ◌≤◌, List, [], ◌∷◌, ◌++◌, length, map, get_or, Some, None, refl, sym, ap, arith}
use Rattle.std.proofs.lemmas.List.{get_or_past}
use Rattle.std.specs.Prelude.{slice_get}
use Rattle.bl_tree.proofs.Basics.{get_behind}
use Rattle.bl_types.specs.declared.environment.Constant.{Constant}
use Rattle.bl_module_laws.proofs.Globals.{HasAt}

-- behind other constants the same are found
pub has_behind : (others xs : List Constant) (ks : List ℕ) (zs : List Constant) → HasAt xs ks zs → HasAt (others ++ xs) (map (λ k. length others + k) ks) zs
has_behind others xs [] [] has = tt
has_behind others xs [] (z ∷ zs) has = has
has_behind others xs (k ∷ ks) [] has = has
has_behind others xs (k ∷ ks) (z ∷ zs) has = (get_behind others xs k ∙ has.0, has_behind others xs ks zs has.1)

pub has_among : (others xs : List Constant) (ks : List ℕ) (zs : List Constant) → HasAt (others ++ xs) (map (λ k. length others + k) ks) zs → HasAt xs ks zs
has_among others xs [] [] has = tt
has_among others xs [] (z ∷ zs) has = has
has_among others xs (k ∷ ks) [] has = has
has_among others xs (k ∷ ks) (z ∷ zs) has = (sym (get_behind others xs k) ∙ has.0, has_among others xs ks zs has.1)

-- positions are as many as the constants that are found
pub as_many : (all : List Constant) (ks : List ℕ) (zs : List Constant) → HasAt all ks zs → length zs ≡ length ks
as_many all [] [] has = refl
as_many all [] (z ∷ zs) has = absurd has
as_many all (k ∷ ks) [] has = absurd has
as_many all (k ∷ ks) (z ∷ zs) has = ap suc (as_many all ks zs has.1)

-- each constant is found at its position, and none behind the last
pub found_at : (all : List Constant) (end : ℕ) → ((j : ℕ) → slice_get all (end + j) ≡ None) → (ks : List ℕ) (zs : List Constant) → HasAt all ks zs → (i : ℕ) →
    slice_get all (get_or ks i (end + (i - length ks))) ≡ slice_get zs i
found_at all end beyond [] [] has i = beyond (i - 0)
found_at all end beyond [] (z ∷ zs) has i = absurd has
found_at all end beyond (k ∷ ks) [] has i = absurd has
found_at all end beyond (k ∷ ks) (z ∷ zs) has zero = has.0
found_at all end beyond (k ∷ ks) (z ∷ zs) has (suc i) =
    let less : suc i - length (k ∷ ks) ≡ i - length ks = omega arith in
    ap (λ n. slice_get all (get_or ks i (end + n))) less ∙ found_at all end beyond ks zs has.1 i

-- behind the last position they go on one by one
pub goes_on : (ks : List ℕ) (end j : ℕ) → get_or ks (length ks + j) (end + ((length ks + j) - length ks)) ≡ end + j
goes_on ks end j =
    let past : length ks ≤ length ks + j = omega arith in
    let behind : end + ((length ks + j) - length ks) ≡ end + j = omega arith in
    get_or_past ks (length ks + j) (end + ((length ks + j) - length ks)) past ∙ behind

-- within a list there is an element
pub there_is : (xs : List Constant) (k : ℕ) → k < length xs → (x : Constant) × (slice_get xs k ≡ Some x)
there_is [] k less = absurd (omega (arith, less))
there_is (x ∷ xs) zero less = (x, refl)
there_is (x ∷ xs) (suc k) less = there_is xs k (omega (arith, less))
