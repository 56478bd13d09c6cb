-- What lists contain.
use Rattle.std.proofs.Common.{◌≡◌, ◌⊎◌, ℕ, zero, suc, ◌+◌, ◌≤◌, List, [], ◌∷◌, ◌++◌}
use Rattle.std.proofs.Common.{map, Some, ap, arith}
use Rattle.std.proofs.lemmas.Option.{same_Some}
use Rattle.std.specs.Prelude.{slice_get, slice_index}

-- ---- elements

-- ---- positions

-- ---- sums

abbrev pub sum : List ℕ → ℕ
sum [] = 0
sum (x ∷ xs) = x + sum xs

pub index_few : (xs : List ℕ) (k : ℕ) → slice_index xs k ≤ sum xs
index_few [] zero = omega arith
index_few [] (suc k) = omega arith
index_few (x ∷ xs) zero = omega arith
index_few (x ∷ xs) (suc k) = let rest = index_few xs k in omega arith

pub each_few : {X : Type 0} (f : X → ℕ) (xs : List X) (k : ℕ) (x : X) → slice_get xs k ≡ Some x → f x ≤ sum (map f xs)
each_few f [] k x there = absurd (cc)
each_few f (y ∷ xs) zero x there = let same : f y ≡ f x = ap f (same_Some y x there) in omega arith
each_few f (y ∷ xs) (suc k) x there = let rest = each_few f xs k x there in omega arith
