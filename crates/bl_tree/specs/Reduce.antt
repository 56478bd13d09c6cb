-- What a list of answers comes to, for definitions that go down a tree: one answer a child.
use Rattle.std.specs.Prelude.{ℕ, ◌+◌, max, Bool, true, false, ◌&&◌, ◌||◌, List, [], ◌∷◌, ◌++◌}

-- whether every answer is yes
abbrev pub all_of : List Bool → Bool
all_of [] = true
all_of (x ∷ xs) = x && all_of xs

-- whether some answer is yes
abbrev pub any_of : List Bool → Bool
any_of [] = false
any_of (x ∷ xs) = x || any_of xs

-- the lists one after another
abbrev pub joined : {A : Type 0} → List (List A) → List A
joined [] = []
joined (xs ∷ rest) = xs ++ joined rest

-- the sum of a list
abbrev pub total : List ℕ → ℕ
total [] = 0
total (n ∷ ns) = n + total ns

-- the greatest, and 0 of none
abbrev pub greatest : List ℕ → ℕ
greatest [] = 0
greatest (n ∷ ns) = max n (greatest ns)
