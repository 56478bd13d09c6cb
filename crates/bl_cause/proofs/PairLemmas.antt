-- Lists whose elements belong together, one by one.
use Rattle.std.proofs.Common.{◌≡◌, ℕ, zero, suc, ◌+◌, ◌<◌, ◌≤◌, Bool, true, false, cond, Some, List, [], ◌∷◌, ◌++◌, ◌⊎◌, inl, inr, ⊎_elim, length, get_or, take}
use Rattle.std.proofs.Common.{refl, sym, ap, subst, ◌∙◌}
use Rattle.std.specs.Prelude.{Contains, filter, slice_get}
use Rattle.std.proofs.lemmas.List.{take_all, take_more}
use Rattle.bl_tree.proofs.Basics.{contains_first, contains_further, contains_none, first_or_further, same_some}
use Rattle.bl_cause.specs.Activities.{EachTwo}

module _ {A B : Type 0} (R : A → B → Type 0) where
  pub each_push : (xs : List A) (ys : List B) (x : A) (y : B) → EachTwo R xs ys → R x y → EachTwo R (xs ++ x ∷ []) (ys ++ y ∷ [])
  each_push [] [] x y each r = (r, tt)
  each_push [] (b ∷ ys) x y each r = absurd each
  each_push (a ∷ xs) [] x y each r = absurd each
  each_push (a ∷ xs) (b ∷ ys) x y each r = (each.0, each_push xs ys x y each.1 r)

  -- what belongs to an element of the first list
  pub each_first : (xs : List A) (ys : List B) (x : A) → EachTwo R xs ys → Contains xs x → (y : B) × Contains ys y × R x y
  each_first [] ys x each h = absurd (contains_none x h)
  each_first (a ∷ xs) [] x each h = absurd each
  each_first (a ∷ xs) (b ∷ ys) x each h =
      ⊎_elim
      (λ (is : a ≡ x). (b, contains_first b ys, subst (λ z. R z b) is each.0))
      (λ (later : Contains xs x).
      let rest = each_first xs ys x each.1 later in
      (rest.0, contains_further b ys rest.0 rest.1, rest.2))
      (first_or_further a xs x h)

  -- and to one of the second
  pub each_second : (xs : List A) (ys : List B) (y : B) → EachTwo R xs ys → Contains ys y → (x : A) × Contains xs x × R x y
  each_second xs [] y each h = absurd (contains_none y h)
  each_second [] (b ∷ ys) y each h = absurd each
  each_second (a ∷ xs) (b ∷ ys) y each h =
      ⊎_elim
      (λ (is : b ≡ y). (a, contains_first a xs, subst (λ z. R a z) is each.0))
      (λ (later : Contains ys y).
      let rest = each_second xs ys y each.1 later in
      (rest.0, contains_further a xs rest.0 rest.1, rest.2))
      (first_or_further b ys y h)

-- ---- fronts of lists

-- the front goes on by the element at its end
pub front_more : {X : Type 0} (xs : List X) (k : ℕ) (x : X) → k < length xs → x ≡ get_or xs k x → take (k + 1) xs ≡ take k xs ++ x ∷ []
front_more xs k x inside is = take_more xs k x inside ∙ ap (λ y. take k xs ++ y ∷ []) (sym is)

-- ---- elements of two lists

pub contains_left : {X : Type 0} (xs ys : List X) (x : X) → Contains xs x → Contains (xs ++ ys) x
contains_left [] ys x h = absurd (contains_none x h)
contains_left (a ∷ xs) ys x h =
    ⊎_elim (λ (is : a ≡ x). subst (λ z. Contains (z ∷ (xs ++ ys)) x) (sym is) (contains_first x (xs ++ ys)))
    (λ (later : Contains xs x). contains_further a (xs ++ ys) x (contains_left xs ys x later))
    (first_or_further a xs x h)

pub contains_last : {X : Type 0} (xs : List X) (x : X) → Contains (xs ++ x ∷ []) x
contains_last [] x = contains_first x []
contains_last (a ∷ xs) x = contains_further a (xs ++ x ∷ []) x (contains_last xs x)

pub contains_either : {X : Type 0} (xs : List X) (last x : X) → Contains (xs ++ last ∷ []) x → Contains xs x ⊎ (last ≡ x)
contains_either [] last x h =
    ⊎_elim (λ (is : last ≡ x). inr is) (λ (later : Contains [] x). absurd (contains_none x later)) (first_or_further last [] x h)
contains_either (a ∷ xs) last x h =
    ⊎_elim (λ (is : a ≡ x). inl (subst (λ z. Contains (z ∷ xs) x) (sym is) (contains_first x xs)))
    (λ (later : Contains (xs ++ last ∷ []) x).
    ⊎_elim (λ (one : Contains xs x). inl (contains_further a xs x one)) (λ (two : last ≡ x). inr two) (contains_either xs last x later))
    (first_or_further a (xs ++ last ∷ []) x h)

pub whole_front : {X : Type 0} (xs : List X) (k : ℕ) → length xs ≤ k → take k xs ≡ xs
whole_front xs k over = take_all k xs over

-- ---- elements by their positions

-- where an element that passes the test stands among those that do
pub filtered_at : {X : Type 0} (p : X → Bool) (xs : List X) (at : ℕ) (x : X) → slice_get xs at ≡ Some x → p x ≡ true →
    slice_get (filter p xs) (length (filter p (take at xs))) ≡ Some x
filtered_at p [] zero x is passes = absurd (cc)
filtered_at p [] (suc at) x is passes = absurd (cc)
filtered_at p (y ∷ xs) zero x is passes = subst (λ b. slice_get (cond b (y ∷ filter p xs) (filter p xs)) 0 ≡ Some x) (sym (ap p same ∙ passes)) is
  where
    same : y ≡ x
    same = same_some y x is
filtered_at p (y ∷ xs) (suc at) x is passes = on (p y) (filtered_at p xs at x is passes)
  where
    on : (b : Bool) → slice_get (filter p xs) (length (filter p (take at xs))) ≡ Some x →
        slice_get (cond b (y ∷ filter p xs) (filter p xs)) (length (cond b (y ∷ filter p (take at xs)) (filter p (take at xs)))) ≡ Some x
    on true rest = rest
    on false rest = rest

-- what belongs to the element at a position
pub each_at : {A B : Type 0} (R : A → B → Type 0) (xs : List A) (ys : List B) (at : ℕ) (x : A) → EachTwo R xs ys → slice_get xs at ≡ Some x →
    (y : B) × (slice_get ys at ≡ Some y) × R x y
each_at R [] ys zero x each is = absurd (cc)
each_at R [] ys (suc at) x each is = absurd (cc)
each_at R (a ∷ xs) [] at x each is = absurd each
each_at R (a ∷ xs) (b ∷ ys) zero x each is = (b, refl, subst (λ it. R it b) (same_some a x is) each.0)
each_at R (a ∷ xs) (b ∷ ys) (suc at) x each is = each_at R xs ys at x each.1 is
