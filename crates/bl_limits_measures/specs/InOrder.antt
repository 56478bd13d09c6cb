-- Answers for the elements of a list in order, each by what is known of the elements before it.
use Rattle.std.specs.Prelude.{List, [], ◌∷◌, ◌++◌}

-- what is known already, and then an answer for each element that comes
abbrev pub answers_after : {A X : Type 0} → (List A → X → A) → List A → List X → List A
answers_after step known [] = known
answers_after step known (x ∷ rest) = answers_after step (known ++ step known x ∷ []) rest

-- an answer for each element, from the answers for those before it
abbrev pub answers : {A X : Type 0} → (List A → X → A) → List X → List A
answers step xs = answers_after step [] xs
