-- Elements of appended lists at their positions.
use Rattle.std.proofs.Common.{◌≡◌, ◌∙◌, ℕ, zero, suc, ◌+◌, ◌≤◌, List, [], ◌∷◌, ◌++◌, arith}
use Rattle.std.specs.Prelude.{slice_index}

pub index_grows : (xs ys : List ℕ) (k : ℕ) → slice_index xs k ≤ slice_index (xs ++ ys) k
index_grows [] ys k = omega arith
index_grows (x ∷ xs) ys zero = omega arith
index_grows (x ∷ xs) ys (suc k) = index_grows xs ys k
