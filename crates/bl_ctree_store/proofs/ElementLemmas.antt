-- Elements one after another.
use Rattle.std.proofs.Common.{◌≡◌, ℕ, zero, suc, ◌+◌, ◌<◌, List, [], ◌∷◌, ◌++◌, map, take, Some, sym, ap, ◌∙◌, subst, arith}
use Rattle.std.proofs.Common.{append_assoc}
use Rattle.std.specs.Prelude.{All, slice_get}
use Rattle.bl_tree.proofs.Basics.{map_append}

pub take_next : {A : Type 0} (k : ℕ) (xs : List A) (x : A) → slice_get xs k ≡ Some x → take (k + 1) xs ≡ take k xs ++ x ∷ []
take_next k [] x is = absurd cc
take_next zero (y ∷ xs) x is = let same : y ≡ x = cc in ap (λ z. z ∷ []) same
take_next (suc k) (y ∷ xs) x is = (let more : suc k + 1 ≡ suc (k + 1) = omega arith in ap (λ n. take n (y ∷ xs)) more)
    ∙ ap (λ rest. y ∷ rest) (take_next k xs x is)

pub one_more : {A B : Type 0} (f : A → B) (k : ℕ) (xs : List A) (x : A) (made more : List B) → made ≡ map f (take k xs) →
    slice_get xs k ≡ Some x → more ≡ made ++ f x ∷ []
    → more ≡ map f (take (k + 1) xs)
one_more f k xs x made more is here is_more =
    is_more ∙ ap (λ made. made ++ f x ∷ []) is ∙ sym (ap (map f) (take_next k xs x here) ∙ map_append f (take k xs) (x ∷ []))

-- what holds of all elements holds of all but the first
pub all_others : {A : Type 0} (P : A → Type 0) (xs rest : List A) (x : A) → xs ≡ x ∷ rest → All P xs → All P rest
all_others P xs rest x is all k d below = subst (All P) is all (suc k) d (omega arith)

-- one more element of a list, mapped
pub mapped_more : {A B : Type 0} (f : A → B) (first made more : List B) (xs : List A) (x : A) (y : B) → made ≡ first ++ map f xs →
    y ≡ f x → more ≡ made ++ y ∷ [] → more ≡ first ++ map f (xs ++ x ∷ [])
mapped_more f first made more xs x y is given is_more =
    is_more ∙ ap (λ made. made ++ y ∷ []) is ∙ append_assoc first (map f xs) (y ∷ [])
    ∙ ap (λ y. first ++ (map f xs ++ y ∷ [])) given ∙ ap (λ ys. first ++ ys) (sym (map_append f xs (x ∷ [])))
