-- Nodes in blocks, each in the block of the node before it where a test of the two says so.
use Rattle.std.specs.Prelude.{ℕ, Bool, List, [], ◌∷◌, ◌++◌, if◌then◌else◌}

-- the blocks that follow from a begun block, its last node so far, and the nodes behind
abbrev pub groups_from : (ℕ → ℕ → Bool) → List ℕ → ℕ → List ℕ → List (List ℕ)
groups_from test front last [] = (front ++ last ∷ []) ∷ []
groups_from test front last (node ∷ rest) =
    if test last node then groups_from test (front ++ last ∷ []) node rest else (front ++ last ∷ []) ∷ groups_from test [] node rest

-- the blocks of a list of nodes
abbrev pub grouped : (ℕ → ℕ → Bool) → List ℕ → List (List ℕ)
grouped test [] = []
grouped test (node ∷ rest) = groups_from test [] node rest
