-- What stands in lists.
use Rattle.std.proofs.Common.{◌≡◌, ℕ, Bool, true, false, cond, List, [], ◌∷◌, ◌++◌, ◌⊎◌, inl, inr, ⊎_elim, reverse, sym}
use Rattle.std.proofs.Common.{ap, subst, ◌∙◌}
use Rattle.std.specs.Prelude.{Contains, filter}
use Rattle.std.proofs.lemmas.List.{reverse-append}
use Rattle.std.proofs.lemmas.List.Elements.{All-contains, All-contains_itself, All-filter, filter_passes}
use Rattle.bl_tree.proofs.Basics.{contains_first, contains_further, contains_none, first_or_further}
use Rattle.bl_cause.specs.inner.Lists.{In}

-- ---- elements

-- ---- filters

pub filter_there : {X : Type 0} (p : X → Bool) (xs : List X) (x : X) → Contains (filter p xs) x → Contains xs x
filter_there p xs x h = All-contains (Contains xs) (filter p xs) x (All-filter p (Contains xs) xs (All-contains_itself xs)) h

pub filter_true : {X : Type 0} (p : X → Bool) (xs : List X) (x : X) → Contains (filter p xs) x → p x ≡ true
filter_true p xs x h = All-contains (λ y. p y ≡ true) (filter p xs) x (filter_passes p xs) h

pub filter_keeps : {X : Type 0} (p : X → Bool) (xs : List X) (x : X) → Contains xs x → p x ≡ true → Contains (filter p xs) x
filter_keeps p [] x h good = absurd (contains_none x h)
filter_keeps p (y ∷ xs) x h good =
    ⊎_elim
    (λ (is : y ≡ x).
    let e : p y ≡ true = ap p is ∙ good in
    subst (λ b. Contains (cond b (y ∷ filter p xs) (filter p xs)) x) (sym e) (subst (λ z.
    Contains (z ∷ filter p xs) x) (sym is) (contains_first x (filter p xs))))
    (λ (later : Contains xs x).
    let rest = filter_keeps p xs x later good in
    either (p y) rest)
    (first_or_further y xs x h)
  where
    either : (b : Bool) → Contains (filter p xs) x → Contains (cond b (y ∷ filter p xs) (filter p xs)) x
    either true rest = contains_further y (filter p xs) x rest
    either false rest = rest

-- ---- numbers in lists

pub in_append : (x : ℕ) (xs ys : List ℕ) → In x (xs ++ ys) → In x xs ⊎ In x ys
in_append x [] ys h = inr h
in_append x (y ∷ xs) ys h =
    ⊎_elim (λ is. inl (inl is)) (λ later. ⊎_elim (λ one. inl (inr one)) (λ two. inr two) (in_append x xs ys later)) h

pub append_left : (x : ℕ) (xs ys : List ℕ) → In x xs → In x (xs ++ ys)
append_left x [] ys h = absurd h
append_left x (y ∷ xs) ys h = ⊎_elim (λ is. inl is) (λ later. inr (append_left x xs ys later)) h

pub append_right : (x : ℕ) (xs ys : List ℕ) → In x ys → In x (xs ++ ys)
append_right x [] ys h = h
append_right x (y ∷ xs) ys h = inr (append_right x xs ys h)

-- the last element of a list is the first of the list turned round
pub reverse_push : {X : Type 0} (xs : List X) (x : X) → reverse (xs ++ x ∷ []) ≡ x ∷ reverse xs
reverse_push xs x = reverse-append xs (x ∷ [])
