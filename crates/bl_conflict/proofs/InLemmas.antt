-- What stands in lists that are put together.
use Rattle.std.proofs.Common.{◌≡◌, List, [], ◌∷◌, ◌++◌, map, ◌⊎◌, inl, inr, ⊎_elim, refl, ap, subst}
use Rattle.bl_tree.proofs.FirstLemmas.{In}
use Rattle.bl_tree.specs.Reduce.{joined}

pub in_append : {A : Type 0} (x : A) (xs ys : List A) → In x (xs ++ ys) → In x xs ⊎ In x ys
in_append x [] ys h = inr h
in_append x (y ∷ xs) ys h =
    ⊎_elim (λ is. inl (inl is)) (λ later. ⊎_elim (λ one. inl (inr one)) (λ two. inr two) (in_append x xs ys later)) h

pub append_left : {A : Type 0} (x : A) (xs ys : List A) → In x xs → In x (xs ++ ys)
append_left x [] ys h = absurd h
append_left x (y ∷ xs) ys h = ⊎_elim (λ is. inl is) (λ later. inr (append_left x xs ys later)) h

pub append_right : {A : Type 0} (x : A) (xs ys : List A) → In x ys → In x (xs ++ ys)
append_right x [] ys h = h
append_right x (y ∷ xs) ys h = inr (append_right x xs ys h)

-- a member of lists made from others, and what it was made from
pub record MadeFrom {A X : Type 0} (g : X → List A) (xs : List X) (a : A) : Type 0 where
  pub source : X
  pub is_there : In source xs
  pub made : In a (g source)

pub in_joined : {A X : Type 0} (g : X → List A) (xs : List X) (a : A) → In a (joined (map g xs)) → MadeFrom g xs a
in_joined g [] a h = absurd h
in_joined g (x ∷ xs) a h =
    ⊎_elim (λ first. record { source = x; is_there = inl refl; made = first })
    (λ later. let from = in_joined g xs a later in record { source = from.source; is_there = inr from.is_there; made = from.made })
    (in_append a (g x) (joined (map g xs)) h)

pub joined_in : {A X : Type 0} (g : X → List A) (xs : List X) (x : X) (a : A) → In x xs → In a (g x) → In a (joined (map g xs))
joined_in g [] x a there made = absurd there
joined_in g (y ∷ xs) x a there made =
    ⊎_elim (λ is. append_left a (g y) (joined (map g xs)) (subst (λ z. In a (g z)) is made))
    (λ later. append_right a (g y) (joined (map g xs)) (joined_in g xs x a later made)) there

-- an element made from another
pub record MadeOf {A X : Type 0} (f : X → A) (xs : List X) (a : A) : Type 0 where
  pub source : X
  pub is_there : In source xs
  pub is : a ≡ f source

pub in_map : {A X : Type 0} (f : X → A) (xs : List X) (a : A) → In a (map f xs) → MadeOf f xs a
in_map f [] a h = absurd h
in_map f (x ∷ xs) a h =
    ⊎_elim (λ first. record { source = x; is_there = inl refl; is = first })
    (λ later. let from = in_map f xs a later in record { source = from.source; is_there = inr from.is_there; is = from.is }) h

pub map_in : {A X : Type 0} (f : X → A) (xs : List X) (x : X) → In x xs → In (f x) (map f xs)
map_in f [] x there = absurd there
map_in f (y ∷ xs) x there = ⊎_elim (λ is. inl (ap f is)) (λ later. inr (map_in f xs x later)) there
