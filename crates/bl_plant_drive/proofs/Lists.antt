-- Lists and what is seen of their elements.
use Rattle.std.proofs.Common.{◌≡◌, ℕ, suc, ◌+◌, ◌<◌, ◌≤◌, Bool, true, false, cond, List, ◌∷◌, ◌++◌, length, map}
use Rattle.std.proofs.Common.{get_or, set, take, drop, refl, ap, sym, subst, ◌∙◌, Option, Some, option_map, add-one, drop-cons}
use Rattle.std.specs.List.{slice_get, position_from, remove, drop-map, take-map}
use Rattle.std.proofs.lemmas.List.{map-set, map-append}
use Rattle.std.proofs.lemmas.Option.{slice_get-get_or, slice_get-map, slice_get_read}
use Rattle.bl_tree.proofs.Basics.{same_some}

-- what is seen of the element at a place
pub seen-at : {A B : Type 0} (f : A → B) (xs : List A) (i : ℕ) (x : A) → i < length xs → x ≡ get_or xs i x → slice_get (map f xs) i ≡ Some (f x)
seen-at f xs i x within is = slice_get-map f xs i ∙ ap (option_map f) (slice_get_read xs (length xs) i x refl within is)

-- and it is the one that is known
pub seen-is : {A B : Type 0} (f : A → B) (xs : List A) (i : ℕ) (x : A) (p : B) → i < length xs → x ≡ get_or xs i x →
    slice_get (map f xs) i ≡ Some p → f x ≡ p
seen-is f xs i x p within is e = same_some (f x) p (sym (seen-at f xs i x within is) ∙ e)

-- an element changes, and so does what is seen of it
pub changed-at : {A B : Type 0} (R : B → B → Type 0) (f : A → B) (xs : List A) (i : ℕ) (x y : A) (p : B) → i < length xs → x ≡ get_or xs i x →
    R (f x) (f y) → slice_get (map f xs) i ≡ Some p →
    (q : B) × R p q × (map f (set xs i y) ≡ set (map f xs) i q)
changed-at R f xs i x y p within is changes e = (f y, subst (λ s. R s (f y)) (seen-is f xs i x p within is e) changes, map-set f xs i y)

pub map-remove : {A B : Type 0} (f : A → B) (xs : List A) (i : ℕ) → map f (remove xs i) ≡ remove (map f xs) i
map-remove f xs i =
    map-append f (take i xs) (drop (suc i) xs)
    ∙ ap (λ z. z ++ map f (drop (suc i) xs)) (sym (take-map f i xs))
    ∙ ap (λ z. take i (map f xs) ++ z) (sym (drop-map f (suc i) xs))

-- ---- the first that passes a test

next : {A B : Type 0} (f : A → B) (xs : List A) (k : ℕ) (x : A) → k < length xs → x ≡ get_or xs k x → drop k (map f xs)
    ≡ f x ∷ drop (k + 1) (map f xs)
next f xs k x low is =
    drop-map f k xs ∙ ap (map f) (drop-cons xs k x low ∙ ap (λ z. z ∷ drop (suc k) xs) (sym is))
    ∙ ap (λ z. f x ∷ z) (sym (drop-map f (suc k) xs) ∙ ap (λ n. drop n (map f xs)) (sym (add-one k)))

from-next : {B : Type 0} (t : B → Bool) (k : ℕ) (b : Bool) (y : B) (ys : List B) → t y ≡ b →
    position_from t k (y ∷ ys) ≡ cond b (Some k) (position_from t (k + 1) ys)
from-next t k b y ys is = ap (λ z. cond z (Some k) (position_from t (k + 1) ys)) is

pub place-here : {A B : Type 0} (t : B → Bool) (f : A → B) (xs : List A) (k : ℕ) (x : A) (whole : Option ℕ) → k < length xs → x
    ≡ get_or xs k x →
    position_from t k (drop k (map f xs)) ≡ whole → t (f x) ≡ true → Some k ≡ whole
place-here t f xs k x whole low is at passes =
    sym (from-next t k true (f x) (drop (k + 1) (map f xs)) passes) ∙ sym (ap (position_from t k) (next f xs k x low is)) ∙ at

pub place-later : {A B : Type 0} (t : B → Bool) (f : A → B) (xs : List A) (k : ℕ) (x : A) (whole : Option ℕ) → k < length xs → x
    ≡ get_or xs k x →
    position_from t k (drop k (map f xs)) ≡ whole → t (f x) ≡ false → position_from t (k + 1) (drop (k + 1) (map f xs)) ≡ whole
place-later t f xs k x whole low is at fails =
    sym (from-next t k false (f x) (drop (k + 1) (map f xs)) fails) ∙ sym (ap (position_from t k) (next f xs k x low is)) ∙ at

-- ---- an element that is read

pub read-same : {A : Type 0} (xs : List A) (k : ℕ) (d e : A) → k < length xs → get_or xs k d ≡ get_or xs k e
read-same xs k d e low = same_some (get_or xs k d) (get_or xs k e) (sym (slice_get-get_or xs k d low) ∙ slice_get-get_or xs k e low)

pub read-again : {A : Type 0} (xs : List A) (k : ℕ) (d : A) → k < length xs → get_or xs k d ≡ get_or xs k (get_or xs k d)
read-again xs k d low = read-same xs k d (get_or xs k d) low
