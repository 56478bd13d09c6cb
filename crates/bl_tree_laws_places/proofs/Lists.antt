-- Lists that are mapped after one another, and their elements.
use Rattle.std.proofs.Common.{◌≡◌, ◌⊎◌, ⊎_elim, ℕ, zero, suc, List, [], ◌∷◌, ◌++◌, map, refl, ap, ap₂, sym, ◌∙◌, arith}
use Rattle.std.specs.Prelude.{All, Contains, Some, slice_get}
use Rattle.std.proofs.lemmas.Option.{same_Some}
use Rattle.std.proofs.lemmas.List.{map-append, map-id}
use Rattle.std.proofs.lemmas.List.Elements.{All-head, All-tail}
use Rattle.bl_tree.proofs.Basics.{contains_further, contains_none, first_or_further}
use Rattle.bl_tree.specs.Reduce.{joined}

pub map-twice : {A B C : Type 0} (g : B → C) (f : A → B) (xs : List A) → map g (map f xs) ≡ map (λ x. g (f x)) xs
map-twice g f [] = refl
map-twice g f (x ∷ xs) = ap (λ ys. g (f x) ∷ ys) (map-twice g f xs)

-- two functions that agree on each element
pub map-same : {A B : Type 0} (g h : A → B) (xs : List A) → All (λ x. g x ≡ h x) xs → map g xs ≡ map h xs
map-same g h [] all = refl
map-same g h (x ∷ xs) all =
    ap (λ y. y ∷ map g xs) (All-head (λ x. g x ≡ h x) x xs all)
    ∙ ap (λ ys. h x ∷ ys) (map-same g h xs (All-tail (λ x. g x ≡ h x) x xs all))

-- two functions that agree everywhere
pub map-alike : {A B : Type 0} (g h : A → B) → ((x : A) → g x ≡ h x) → (xs : List A) → map g xs ≡ map h xs
map-alike g h same xs = map-same g h xs (λ k d less. same _)

-- a function behind another, on each element
pub map-behind : {A B : Type 0} (g : A → B) (f : A → A) (turned : B → B) (xs : List A) → All (λ x. g (f x) ≡ turned (g x)) xs →
    map g (map f xs) ≡ map turned (map g xs)
map-behind g f turned xs all =
    map-twice g f xs ∙ map-same (λ x. g (f x)) (λ x. turned (g x)) xs all ∙ sym (map-twice turned g xs)

-- a function that doesn't tell what stands behind another, on each element
pub map-after : {A B : Type 0} (g : A → B) (f : A → A) (xs : List A) → All (λ x. g (f x) ≡ g x) xs → map g (map f xs) ≡ map g xs
map-after g f xs all = map-twice g f xs ∙ map-same (λ x. g (f x)) g xs all

-- a function that undoes another, on each element
pub map-back : {A : Type 0} (g f : A → A) (xs : List A) → All (λ x. g (f x) ≡ x) xs → map g (map f xs) ≡ xs
map-back g f xs all = map-twice g f xs ∙ map-same (λ x. g (f x)) (λ x. x) xs all ∙ map-id xs

-- lists of elements that are joined and mapped
pub joined-map : {A B : Type 0} (f : A → B) (xs : List (List A)) → joined (map (map f) xs) ≡ map f (joined xs)
joined-map f [] = refl
joined-map f (x ∷ xs) = ap (λ ys. map f x ++ ys) (joined-map f xs) ∙ sym (map-append f x (joined xs))

-- ---- elements

-- an element of a mapped list, by what it is made of
pub record Made {X Y : Type 0} (f : X → Y) (xs : List X) (y : Y) : Type 0 where
  pub source : X
  pub is_there : Contains xs source
  pub is : y ≡ f source

pub from_map : {X Y : Type 0} (f : X → Y) (xs : List X) (y : Y) → Contains (map f xs) y → Made f xs y
from_map f [] y has = absurd (contains_none y has)
from_map f (x ∷ xs) y has =
    ⊎_elim (λ is. record { source = x; is_there = (0, omega arith, refl); is = sym is })
    (λ behind. let found = from_map f xs y behind in
    record { source = found.source; is_there = contains_further x xs found.source found.is_there; is = found.is })
    (first_or_further (f x) (map f xs) y has)

-- an element at a position of a mapped list, by what it is made of
pub record Got {X Y : Type 0} (f : X → Y) (xs : List X) (k : ℕ) (y : Y) : Type 0 where
  pub source : X
  pub got : slice_get xs k ≡ Some source
  pub is : y ≡ f source

pub from_got : {X Y : Type 0} (f : X → Y) (xs : List X) (k : ℕ) (y : Y) → slice_get (map f xs) k ≡ Some y → Got f xs k y
from_got f [] zero y has = absurd cc
from_got f [] (suc k) y has = absurd cc
from_got f (x ∷ xs) zero y has = record { source = x; got = refl; is = sym (same_Some (f x) y has) }
from_got f (x ∷ xs) (suc k) y has = let rest = from_got f xs k y has in record { source = rest.source; got = rest.got; is = rest.is }

-- lists that parts list, where these are mapped
pub joined-behind : {A B C : Type 0} (g : A → List B) (turned : C → A) (of : C → List B) (mapped : B → B) →
    ((x : C) → g (turned x) ≡ map mapped (of x)) → (xs : List C) → joined (map g (map turned xs)) ≡ map mapped (joined (map of xs))
joined-behind g turned of mapped same [] = refl
joined-behind g turned of mapped same (x ∷ xs) =
    ap₂ (λ ys zs. ys ++ zs) (same x) (joined-behind g turned of mapped same xs) ∙ sym (map-append mapped (of x) (joined (map of xs)))
