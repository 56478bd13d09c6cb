-- Truths of lists, one element after the other.
use Rattle.std.proofs.Common.{◌≡◌, ℕ, ◌+◌, ◌<◌, ◌≤◌, Bool, true, false, ◌&&◌, ◌||◌, List, [], ◌∷◌, map, length, get_or, drop, refl, ap, sym, ◌∙◌}
use Rattle.std.proofs.lemmas.List.{drop_all}
use Rattle.std.proofs.lemmas.List.Folds.{list_all-map}
use Rattle.std.specs.List.{list_all, list_any}
use Rattle.bl_tree.proofs.Basics.{drop_next, or_assoc, or_false}
use Rattle.bl_simplify_calls.proofs.Standing.{all_done}

-- one more element of a list
pub any_next : {X : Type 0} (f : X → Bool) (xs : List X) (k : ℕ) (x : X) (so_far here all : Bool) → k < length xs → x ≡ get_or xs k x →
    here ≡ f x → (so_far || list_any f (drop k xs)) ≡ all → ((so_far || here) || list_any f (drop (k + 1) xs)) ≡ all
any_next f xs k x so_far here all within is told h =
    let rest = list_any f (drop (k + 1) xs) in
    ap (λ b. (so_far || b) || rest) told
    ∙ (or_assoc so_far (f x) rest ∙ (ap (λ l. so_far || list_any f l) (sym (drop_next xs k x within is)) ∙ h))

-- the whole list
pub any_done : {X : Type 0} (f : X → Bool) (xs : List X) (k : ℕ) (so_far all : Bool) → length xs ≤ k → (so_far || list_any f (drop k xs)) ≡ all → so_far ≡ all
any_done f xs k so_far all over h = sym (or_false so_far) ∙ (ap (λ l. so_far || list_any f l) (sym (drop_all k xs over)) ∙ h)

-- any of a list that is made of another one
pub any_mapped : {X Y : Type 0} (f : X → Y) (g : Y → Bool) (xs : List X) → list_any (λ x. g (f x)) xs ≡ list_any g (map f xs)
any_mapped f g [] = refl
any_mapped f g (x ∷ xs) = ap (λ b. g (f x) || b) (any_mapped f g xs)

-- all of a list that is made of another one
pub all_mapped : {X Y : Type 0} (f : X → Y) (g : Y → Bool) (xs : List X) (k : ℕ) (so_far : Bool) → length xs ≤ k →
    (so_far && list_all (λ x. g (f x)) (drop k xs)) ≡ list_all (λ x. g (f x)) xs → so_far ≡ list_all g (map f xs)
all_mapped f g xs k so_far over h = all_done (λ x. g (f x)) xs k so_far _ over h ∙ sym (list_all-map g f xs)

-- some of a list that is made of another one
pub some_mapped : {X Y : Type 0} (f : X → Y) (g : Y → Bool) (xs : List X) (k : ℕ) (so_far : Bool) → length xs ≤ k →
    (so_far || list_any (λ x. g (f x)) (drop k xs)) ≡ list_any (λ x. g (f x)) xs → so_far ≡ list_any g (map f xs)
some_mapped f g xs k so_far over h = any_done (λ x. g (f x)) xs k so_far _ over h ∙ any_mapped f g xs
