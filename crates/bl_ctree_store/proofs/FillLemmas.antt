-- New elements take the places of the first of a list.
use Rattle.std.proofs.Common.{◌≡◌, ℕ, zero, suc, ◌+◌, ◌<◌, ◌≤◌, List, [], ◌∷◌, ◌++◌, length, take, drop, get_or, Some, refl, sym, ap, ◌∙◌, arith}
use Rattle.std.specs.Prelude.{slice_get, slice_set}
use Rattle.std.proofs.lemmas.Option.{get_or_from_slice_get}
use Rattle.bl_tree.specs.declared.value.Value.{Value}

pub fill_step : {A : Type 0} (inputs values : List A) (k : ℕ) (v d : A) → k < length inputs → length inputs ≤ length values → v ≡ get_or inputs k d
    → slice_set (take k inputs ++ drop k values) k v ≡ take (suc k) inputs ++ drop (suc k) values
fill_step [] values k v d within fits is = absurd (omega arith)
fill_step (x ∷ inputs) [] k v d within fits is = absurd (omega arith)
fill_step (x ∷ inputs) (y ∷ values) zero v d within fits is = ap (λ z. z ∷ values) is
fill_step (x ∷ inputs) (y ∷ values) (suc k) v d within fits is = ap (λ rest. x ∷ rest) (fill_step inputs values k v d (omega arith) (omega arith) is)

get_drop : (xs : List Value) (k : ℕ) → slice_get (drop k xs) 0 ≡ slice_get xs k
get_drop [] zero = refl
get_drop [] (suc k) = refl
get_drop (x ∷ xs) zero = refl
get_drop (x ∷ xs) (suc k) = get_drop xs k

drop_set : (xs : List Value) (k : ℕ) (y : Value) → drop (suc k) (slice_set xs k y) ≡ drop (suc k) xs
drop_set [] k y = refl
drop_set (x ∷ xs) zero y = refl
drop_set (x ∷ xs) (suc k) y = drop_set xs k y

drop_once : (xs : List Value) (k : ℕ) → drop (suc k) xs ≡ drop 1 (drop k xs)
drop_once [] zero = refl
drop_once [] (suc k) = refl
drop_once (x ∷ xs) zero = refl
drop_once (x ∷ xs) (suc k) = drop_once xs k

-- one more input is in its place
pub fill_next : (inputs left values before after : List Value) (k : ℕ) (v : Value) → before ≡ take k inputs ++ drop k values →
    drop k left ≡ drop k inputs → k < length inputs → length inputs < length values
    → slice_get left k ≡ Some v → after ≡ slice_set before k v → after ≡ take (k + 1) inputs ++ drop (k + 1) values
fill_next inputs left values before after k v is same within fits was is_after =
    let here : slice_get inputs k ≡ Some v = sym (get_drop inputs k) ∙ ap (λ xs. slice_get xs 0) (sym same) ∙ get_drop left k ∙ was in
    let fits' : length inputs ≤ length values = omega arith in
    let more : k + 1 ≡ suc k = omega arith in
    is_after ∙ ap (λ xs. slice_set xs k v) is ∙ fill_step inputs values k v v within fits' (sym (get_or_from_slice_get inputs k v v here))
    ∙ ap (λ n. take n inputs ++ drop n values) (sym more)

pub fill_left : (inputs left after : List Value) (k : ℕ) (y : Value) → drop k left ≡ drop k inputs → after ≡ slice_set left k y →
    drop (k + 1) after ≡ drop (k + 1) inputs
fill_left inputs left after k y same is =
    let more : k + 1 ≡ suc k = omega arith in
    ap (λ n. drop n after) more ∙ ap (drop (suc k)) is ∙ drop_set left k y ∙ drop_once left k ∙ ap (drop 1) same
    ∙ sym (drop_once inputs k) ∙ ap (λ n. drop n inputs) (sym more)

pub fill_long : {A : Type 0} (left after : List A) (k n : ℕ) (y : A) → length left ≡ n → after ≡ slice_set left k y → length after ≡ n
fill_long left after k n y long is = ap length is ∙ length_set left k y ∙ long
  where
    length_set : {A : Type 0} (xs : List A) (k : ℕ) (y : A) → length (slice_set xs k y) ≡ length xs
    length_set [] k y = refl
    length_set (x ∷ xs) zero y = refl
    length_set (x ∷ xs) (suc k) y = ap suc (length_set xs k y)
