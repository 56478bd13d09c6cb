-- Lists that are mapped after one another.
use Rattle.std.proofs.Common.{◌≡◌, List, [], ◌∷◌, ◌++◌, map, refl, ap, sym, ◌∙◌}
use Rattle.std.specs.Prelude.{All}
use Rattle.std.proofs.lemmas.List.{map-append}
use Rattle.std.proofs.lemmas.List.Elements.{All-head, All-tail}
use Rattle.bl_tree.specs.Reduce.{joined}

pub map-twice : {A B C : Type 0} (g : B → C) (f : A → B) (xs : List A) → map g (map f xs) ≡ map (λ x. g (f x)) xs
map-twice g f [] = refl
map-twice g f (x ∷ xs) = ap (λ ys. g (f x) ∷ ys) (map-twice g f xs)

-- two functions that agree on each element
pub map-same : {A B : Type 0} (g h : A → B) (xs : List A) → All (λ x. g x ≡ h x) xs → map g xs ≡ map h xs
map-same g h [] all = refl
map-same g h (x ∷ xs) all =
    ap (λ y. y ∷ map g xs) (All-head (λ x. g x ≡ h x) x xs all)
    ∙ ap (λ ys. h x ∷ ys) (map-same g h xs (All-tail (λ x. g x ≡ h x) x xs all))

-- a function behind another, on each element
pub map-behind : {A B : Type 0} (g : A → B) (f : A → A) (turned : B → B) (xs : List A) → All (λ x. g (f x) ≡ turned (g x)) xs →
    map g (map f xs) ≡ map turned (map g xs)
map-behind g f turned xs all =
    map-twice g f xs ∙ map-same (λ x. g (f x)) (λ x. turned (g x)) xs all ∙ sym (map-twice turned g xs)

-- the same where nothing is turned
pub map-after : {A B : Type 0} (g : A → B) (f : A → A) (xs : List A) → All (λ x. g (f x) ≡ g x) xs → map g (map f xs) ≡ map g xs
map-after g f xs all = map-twice g f xs ∙ map-same (λ x. g (f x)) g xs all

-- lists of elements that are joined and turned
pub joined-map : {A B : Type 0} (f : A → B) (xs : List (List A)) → joined (map (map f) xs) ≡ map f (joined xs)
joined-map f [] = refl
joined-map f (x ∷ xs) = ap (λ ys. map f x ++ ys) (joined-map f xs) ∙ sym (map-append f x (joined xs))
