-- Tables that grow as far as they are written.
use Rattle.std.specs.Prelude.{ℕ, zero, suc, List, [], ◌∷◌}

-- a table with at least n entries; added ones have this value
abbrev pub grown : {X : Type 0} → X → ℕ → List X → List X
grown none zero table = table
grown none (suc n) [] = none ∷ grown none n []
grown none (suc n) (x ∷ table) = x ∷ grown none n table

-- a table with one more at the position, which is added if it is missing
abbrev pub one_more_at : ℕ → List ℕ → List ℕ
one_more_at zero [] = 1 ∷ []
one_more_at zero (n ∷ table) = suc n ∷ table
one_more_at (suc k) [] = 0 ∷ one_more_at k []
one_more_at (suc k) (n ∷ table) = n ∷ one_more_at k table

-- a table with one more at each of the positions
abbrev pub all_counted : List ℕ → List ℕ → List ℕ
all_counted [] table = table
all_counted (k ∷ rest) table = all_counted rest (one_more_at k table)
