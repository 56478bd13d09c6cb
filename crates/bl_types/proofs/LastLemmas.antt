-- The answer of the last of a list.
use Rattle.std.proofs.Common.{◌≡◌, Bool, false, List, [], ◌∷◌, refl}
use Rattle.bl_tree.specs.Returns.{last_of}

-- the answer of the last, and this one where there is none
abbrev pub last_or : Bool → List Bool → Bool
last_or answer [] = answer
last_or answer (x ∷ xs) = last_or x xs

last_or_of : (answer x : Bool) (xs : List Bool) → last_or answer (x ∷ xs) ≡ last_of (x ∷ xs)
last_or_of answer x [] = refl
last_or_of answer x (y ∷ xs) = last_or_of x y xs

pub last_or_is : (xs : List Bool) → last_or false xs ≡ last_of xs
last_or_is [] = refl
last_or_is (x ∷ xs) = last_or_of false x xs
