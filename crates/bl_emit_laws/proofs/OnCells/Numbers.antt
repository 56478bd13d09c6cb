-- Lists of numbers with one more.
use Rattle.std.proofs.Common.{◌≡◌, ℕ, zero, suc, ◌<◌, ◌≤◌, arith, ◌||◌, List, [], ◌∷◌, ◌++◌, length}
use Rattle.std.proofs.Common.{refl, ap}
use Rattle.std.specs.Prelude.{slice_index}
use Rattle.bl_tree.specs.Reduce.{greatest}

pub index_more : (xs : List ℕ) (y j : ℕ) → slice_index xs j ≤ slice_index (xs ++ y ∷ []) j
index_more [] y j = omega arith
index_more (x ∷ xs) y zero = omega arith
index_more (x ∷ xs) y (suc j) = index_more xs y j

pub index_front : (xs : List ℕ) (y j : ℕ) → j < length xs → slice_index (xs ++ y ∷ []) j ≡ slice_index xs j
index_front [] y j less = absurd (omega (arith, less))
index_front (x ∷ xs) y zero less = refl
index_front (x ∷ xs) y (suc j) less = index_front xs y j (omega (arith, less))

pub index_last : (xs : List ℕ) (y : ℕ) → slice_index (xs ++ y ∷ []) (length xs) ≡ y
index_last [] y = refl
index_last (x ∷ xs) y = index_last xs y

pub index_under : (xs : List ℕ) (y j most : ℕ) → slice_index xs j ≤ most → (j ≡ length xs → y ≤ most) →
    slice_index (xs ++ y ∷ []) j ≤ most
index_under [] y zero most old new = new refl
index_under [] y (suc j) most old new = omega arith
index_under (x ∷ xs) y zero most old new = old
index_under (x ∷ xs) y (suc j) most old new = index_under xs y j most old (λ is. new (ap suc is))

-- both under one number
pub greatest_both : (a : ℕ) (ns : List ℕ) (m : ℕ) → a ≤ m → greatest ns ≤ m → greatest (a ∷ ns) ≤ m
greatest_both a ns m one other = omega (arith, one, other)

pub greatest_append : (xs ys : List ℕ) (m : ℕ) → greatest xs ≤ m → greatest ys ≤ m → greatest (xs ++ ys) ≤ m
greatest_append [] ys m one other = other
greatest_append (x ∷ xs) ys m one other =
    let first : x ≤ m = omega (arith, one) in
    let later : greatest xs ≤ m = omega (arith, one) in
    let rest : greatest (xs ++ ys) ≤ m = greatest_append xs ys m later other in omega (arith, first, rest)
