-- Lists whose first elements agree.
use Rattle.std.proofs.Common.{◌≡◌, ℕ, ◌+◌, ◌<◌, ◌≤◌, zero, suc, List, [], ◌∷◌, ◌++◌, length, map, take, refl, sym, ap, ◌∙◌, arith}
use Rattle.std.proofs.lemmas.List.{length-map, map-append}
use Rattle.std.proofs.lemmas.Option.{get_or_from_slice_get, same_Some, slice_get-map, slice_get_within}
use Rattle.std.proofs.Math.Seq.{take-suc}
use Rattle.std.specs.Prelude.{Some, option_map, slice_get}
use Rattle.bl_tree.proofs.Basics.{plus_one}

pub take-map : {A B : Type 0} (f : A → B) (n : ℕ) (xs : List A) → take n (map f xs) ≡ map f (take n xs)
take-map f zero xs = refl
take-map f (suc n) [] = refl
take-map f (suc n) (x ∷ xs) = ap (λ ys. f x ∷ ys) (take-map f n xs)

pub take-take : {A : Type 0} (xs : List A) (n k : ℕ) → k ≤ n → take k (take n xs) ≡ take k xs
take-take xs n zero less = refl
take-take xs zero (suc k) less = absurd (omega (arith, less))
take-take [] (suc n) (suc k) less = refl
take-take (x ∷ xs) (suc n) (suc k) less =
    let below : k ≤ n = omega (arith, less) in
    ap (λ ys. x ∷ ys) (take-take xs n k below)

-- the first elements up to one are those before it, and then this one
pub take-next : {A : Type 0} (xs : List A) (k : ℕ) (x : A) → slice_get xs k ≡ Some x → take (k + 1) xs ≡ take k xs ++ x ∷ []
take-next xs k x at =
    ap (λ n. take n xs) (plus_one k) ∙ take-suc xs k x (slice_get_within xs k x at)
    ∙ ap (λ y. take k xs ++ y ∷ []) (get_or_from_slice_get xs k x x at)

-- one element more that agrees
pub agree-next : {A B C : Type 0} (f : A → C) (g : B → C) (xs : List A) (ys : List B) (k : ℕ) (x : A) (y : B) → slice_get xs k ≡ Some x
    → slice_get ys k ≡ Some y → f x ≡ g y → map f (take k xs) ≡ map g (take k ys) → map f (take (k + 1) xs) ≡ map g (take (k + 1) ys)
agree-next f g xs ys k x y at there same before =
    ap (map f) (take-next xs k x at) ∙ map-append f (take k xs) (x ∷ [])
    ∙ (λ i. before i ++ same i ∷ [])
    ∙ sym (ap (map g) (take-next ys k y there) ∙ map-append g (take k ys) (y ∷ []))

-- elements at one position of lists that agree agree
pub agree-at : {A B C : Type 0} (f : A → C) (g : B → C) (xs : List A) (ys : List B) (k : ℕ) (x : A) (y : B) → map f xs ≡ map g ys
    → slice_get xs k ≡ Some x → slice_get ys k ≡ Some y → f x ≡ g y
agree-at f g xs ys k x y same at there =
    same_Some (f x) (g y)
    (sym (slice_get-map f xs k ∙ ap (option_map f) at)
    ∙ ap (λ zs. slice_get zs k) same ∙ slice_get-map g ys k ∙ ap (option_map g) there)

pub agree-length : {A B C : Type 0} (f : A → C) (g : B → C) (xs : List A) (ys : List B) → map f xs ≡ map g ys → length xs ≡ length ys
agree-length f g xs ys same = sym (length-map xs f) ∙ ap length same ∙ length-map ys g

-- ---- elements at the end

pub get-end : {A : Type 0} (xs : List A) (x : A) (n : ℕ) → n ≡ length xs → slice_get (xs ++ x ∷ []) n ≡ Some x
get-end [] x zero is = refl
get-end [] x (suc n) is = absurd (omega (arith, is))
get-end (y ∷ xs) x zero is = absurd (omega (arith, is))
get-end (y ∷ xs) x (suc n) is =
    let same : n ≡ length xs = omega (arith, is) in
    get-end xs x n same

pub take-before : {A : Type 0} (xs ys : List A) (k : ℕ) → k ≤ length xs → take k (xs ++ ys) ≡ take k xs
take-before xs ys zero less = refl
take-before [] ys (suc k) less = absurd (omega (arith, less))
take-before (x ∷ xs) ys (suc k) less =
    let below : k ≤ length xs = omega (arith, less) in
    ap (λ zs. x ∷ zs) (take-before xs ys k below)
