-- Members of lists, one by one.
use Rattle.std.proofs.Common.{inl, inr, List, [], ◌∷◌, ◌++◌, map, ap}
use Rattle.bl_tree.proofs.FirstLemmas.{In}

pub in_left : {A : Type 0} (x : A) (xs ys : List A) → In x xs → In x (xs ++ ys)
in_left x [] ys there = absurd there
in_left x (z ∷ xs) ys (inl is) = inl is
in_left x (z ∷ xs) ys (inr more) = inr (in_left x xs ys more)

pub in_right : {A : Type 0} (x : A) (xs ys : List A) → In x ys → In x (xs ++ ys)
in_right x [] ys there = there
in_right x (z ∷ xs) ys there = inr (in_right x xs ys there)

pub in_map : {A B : Type 0} (f : A → B) (x : A) (xs : List A) → In x xs → In (f x) (map f xs)
in_map f x [] there = absurd there
in_map f x (y ∷ ys) (inl is) = inl (ap f is)
in_map f x (y ∷ ys) (inr more) = inr (in_map f x ys more)
