-- Lists by their elements.
use Rattle.std.proofs.Common.{◌≡◌, ℕ, zero, suc, ◌+◌, ◌<◌, ◌≤◌, arith, Bool, true}
use Rattle.std.proofs.Common.{false, List, [], ◌∷◌, ◌++◌, Contains, map, take, drop, length}
use Rattle.std.proofs.Common.{Option, Some, None, refl, sym, ap, ap₂, ◌∙◌}
use Rattle.std.proofs.lemmas.Bool.{ltb-false, ltb-true}
use Rattle.std.proofs.lemmas.Option.{same_Some, slice_get-map}
use Rattle.std.specs.List.{range_with_len}
use Rattle.std.specs.Prelude.{nat_lt, option_and_then, option_map, slice_get}
use Rattle.bl_tree.proofs.Basics.{get_past, get_taken}
use Rattle.bl_machine_pass_laws_execution.proofs.OnFresh.Lists.{range_at}

-- lists with the same elements
pub same_lists : {A : Type 0} (xs ys : List A) → ((k : ℕ) → slice_get xs k ≡ slice_get ys k) → xs ≡ ys
same_lists [] [] same = refl
same_lists [] (y ∷ ys) same = absurd (let no = same zero in cc)
same_lists (x ∷ xs) [] same = absurd (let no = same zero in cc)
same_lists (x ∷ xs) (y ∷ ys) same = ap₂ (λ x xs. x ∷ xs) (same_Some x y (same zero)) (same_lists xs ys (λ k. same (suc k)))

pub taken_past : {A : Type 0} (xs : List A) (n k : ℕ) → n ≤ k → slice_get (take n xs) k ≡ None
taken_past xs zero k more = get_past [] k (omega arith)
taken_past [] (suc n) k more = get_past [] k (omega arith)
taken_past (x ∷ xs) (suc n) zero more = absurd (omega arith)
taken_past (x ∷ xs) (suc n) (suc k) more = taken_past xs n k (omega (arith, more))

pub get_behind : {A : Type 0} (xs : List A) (n k : ℕ) → slice_get (drop n xs) k ≡ slice_get xs (n + k)
get_behind xs zero k = let is : k ≡ 0 + k = omega arith in ap (slice_get xs) is
get_behind [] (suc n) k = get_past [] k (omega arith) ∙ sym (get_past [] (suc n + k) (omega arith))
get_behind (x ∷ xs) (suc n) k = let is : suc (n + k) ≡ suc n + k = omega arith in get_behind xs n k ∙ ap (slice_get (x ∷ xs)) is

-- a list that has these elements is the front of another, where its length is so
pub taken_is : {A : Type 0} (xs ys : List A) (n : ℕ) → length ys ≡ n → ((k : ℕ) → k < n → slice_get xs k ≡ slice_get ys k) →
    take n xs ≡ ys
taken_is xs ys n long same = same_lists (take n xs) ys (λ k. by k (nat_lt k n) refl)
  where
    by : (k : ℕ) (b : Bool) → nat_lt k n ≡ b → slice_get (take n xs) k ≡ slice_get ys k
    by k true is = let less : k < n = ltb-true k n is in get_taken xs n k less ∙ same k less
    by k false is =
        let more : n ≤ k = ltb-false k n is in
        let past : length ys ≤ k = omega (arith, more, long) in taken_past xs n k more ∙ sym (get_past ys k past)

-- ---- lists of numbers

pub mapped_at : {A : Type 0} (f : ℕ → A) (count k : ℕ) → k < count → slice_get (map f (range_with_len 0 count)) k ≡ Some (f k)
mapped_at f count k less =
    slice_get-map f (range_with_len 0 count) k
    ∙ (ap (option_map f) (range_at 0 count k less) ∙ ap (λ j. Some (f j)) (omega arith))

-- ---- elements of mapped lists

-- an element of a mapped list is made of one of the list
pub mapped_from : {A B : Type 0} (f : A → B) (xs : List A) (y : B) → Contains (map f xs) y → (x : A) × Contains xs x × (f x ≡ y)
mapped_from f [] y there = let below = there.1 in absurd (omega (arith, below))
mapped_from f (x ∷ xs) y (zero, within, is) = (x, (zero, omega arith, refl), is)
mapped_from f (x ∷ xs) y (suc k, within, is) =
    let rest = mapped_from f xs y (k, omega (arith, within), is) in
    let less : rest.1.0 < length xs = rest.1.1 in (rest.0, (suc rest.1.0, omega (arith, less), rest.1.2), rest.2)

pub itself_only : {A : Type 0} (o : Option A) → option_and_then (λ x. Some x) o ≡ o
itself_only None = refl
itself_only (Some x) = refl
