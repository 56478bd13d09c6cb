-- Walks over lists, with one part more.
use Rattle.std.proofs.Common.{◌≡◌, ℕ, zero, suc, ◌+◌, ◌<◌, Bool, true, false, nat_eq, List, [], ◌∷◌, ◌++◌, length, take, get_or, map, slice_set, refl, sym, ap}
use Rattle.std.proofs.Common.{subst, ◌∙◌, arith}
use Rattle.std.proofs.Math.Seq.{map-set_same}
use Rattle.std.proofs.lemmas.Bool.{eqb-true}
use Rattle.std.proofs.lemmas.List.{take_more_set}
use Rattle.bl_tree.proofs.Basics.{same_heads, same_tails}
use Rattle.bl_ctext.specs.Spelling.{comma_before}
use Rattle.bl_cparse.specs.HasPlaces.{TextSpot, PlaceWalk, behind_tokens, in_turn, in_list}

pair_is : {A : Type 0} (r : A × TextSpot) (a : A) (s : TextSpot) → r.0 ≡ a → r.1 ≡ s → r ≡ (a, s)
pair_is r a s e h = ap (λ x. (x, r.1)) e ∙ ap (λ y. (a, y)) h

pub turn_more : {A : Type 0} (f : A → PlaceWalk A) (xs : List A) (x : A) (from between behind : TextSpot) →
    in_turn (map f xs) from ≡ (xs, between) → f x between ≡ (x, behind) →
    in_turn (map f (xs ++ x ∷ [])) from ≡ (xs ++ x ∷ [], behind)
turn_more f [] x from between behind h k = ap (λ r. (r.0 ∷ [], r.1)) (ap (f x) (ap (λ r. r.1) h) ∙ k)
turn_more f (y ∷ xs) x from between behind h k =
    let first : (f y from).0 ≡ y = same_heads _ _ _ _ (ap (λ r. r.0) h) in
    let rest : in_turn (map f xs) (f y from).1 ≡ (xs, between) = pair_is _ _ _ (same_tails _ _ _ _ (ap (λ r. r.0) h)) (ap (λ r. r.1) h) in
    ap (λ r. ((f y from).0 ∷ r.0, r.1)) (turn_more f xs x (f y from).1 between behind rest k) ∙ ap (λ z. (z ∷ (xs ++ x ∷ []), behind)) first

-- behind a part there is a comma before the next
list_on : {A : Type 0} (f : A → PlaceWalk A) (first : Bool) (y : A) (xs : List A) (x : A) (from between behind : TextSpot) →
    in_list first (map f (y ∷ xs)) from ≡ (y ∷ xs, between) →
    f x (behind_tokens (comma_before false) between) ≡ (x, behind) → in_list first (map f ((y ∷ xs) ++ x ∷ [])) from ≡ ((y ∷ xs) ++ x ∷ [], behind)
list_on f first y [] x from between behind h k =
    let walked = f y (behind_tokens (comma_before first) from) in
    let same : walked.0 ≡ y = same_heads _ _ _ _ (ap (λ r. r.0) h) in
    ap (λ r. (walked.0 ∷ r.0 ∷ [], r.1)) (ap (λ s. f x (behind_tokens (comma_before false) s)) (ap (λ r. r.1) h) ∙ k)
    ∙ ap (λ z. (z ∷ x ∷ [], behind)) same
list_on f first y (z ∷ xs) x from between behind h k =
    let walked = f y (behind_tokens (comma_before first) from) in
    let same : walked.0 ≡ y = same_heads _ _ _ _ (ap (λ r. r.0) h) in
    let rest : in_list false (map f (z ∷ xs)) walked.1 ≡ (z ∷ xs, between) = pair_is _ _ _ (same_tails _ _ _ _ (ap (λ r. r.0) h)) (ap (λ r. r.1) h) in
    ap (λ r. (walked.0 ∷ r.0, r.1)) (list_on f false z xs x walked.1 between behind rest k) ∙ ap (λ w. (w ∷ ((z ∷ xs) ++ x ∷ []), behind)) same

pub list_more : {A : Type 0} (f : A → PlaceWalk A) (first : Bool) (xs : List A) (x : A) (from between behind : TextSpot) →
    (first ≡ true → xs ≡ []) → (xs ≡ [] → first ≡ true) →
    in_list true (map f xs) from ≡ (xs, between) → f x (behind_tokens (comma_before first) between) ≡ (x, behind) →
    in_list true (map f (xs ++ x ∷ [])) from ≡ (xs ++ x ∷ [], behind)
list_more f first [] x from between behind none empty h k =
    ap (λ r. (r.0 ∷ [], r.1)) (ap (f x) (ap (λ r. r.1) h) ∙ (ap (λ c. f x (behind_tokens (comma_before c) between)) (sym (empty refl)) ∙ k))
list_more f true (y ∷ xs) x from between behind none empty h k = absurd (no_cons (none refl))
  where
    no_cons : {A : Type 0} {a : A} {us : List A} → a ∷ us ≡ [] → ⊥
    no_cons e = cc
list_more f false (y ∷ xs) x from between behind none empty h k = list_on f true y xs x from between behind h k

-- the same where the part stands in a list, behind those that have their places
pub turn_set : {A : Type 0} (f : A → PlaceWalk A) (xs : List A) (k : ℕ) (x : A) (from between behind : TextSpot) → k < length xs →
    in_turn (map f (take k xs)) from ≡ (take k xs, between) →
    f x between ≡ (x, behind) → in_turn (map f (take (k + 1) (slice_set xs k x))) from ≡ (take (k + 1) (slice_set xs k x), behind)
turn_set f xs k x from between behind within h step =
    subst (λ ys. in_turn (map f ys) from ≡ (ys, behind)) (sym (take_more_set xs k x within)) (turn_more f (take k xs) x from between behind h step)

none_taken : {A : Type 0} (xs : List A) (k : ℕ) → k < length xs → nat_eq k 0 ≡ true → take k xs ≡ []
none_taken xs zero within h = refl
none_taken xs (suc k) within h = absurd (omega (arith, eqb-true (suc k) 0 h))

taken_none : {A : Type 0} (xs : List A) (k : ℕ) → k < length xs → take k xs ≡ [] → nat_eq k 0 ≡ true
taken_none xs zero within h = refl
taken_none [] (suc k) within h = elim within [ ]
taken_none (x ∷ xs) (suc k) within h = cc

pub list_set : {A : Type 0} (f : A → PlaceWalk A) (xs : List A) (k : ℕ) (x : A) (from between behind : TextSpot) → k < length xs →
    in_list true (map f (take k xs)) from ≡ (take k xs, between) →
    f x (behind_tokens (comma_before (nat_eq k 0)) between) ≡ (x, behind) →
    in_list true (map f (take (k + 1) (slice_set xs k x))) from ≡ (take (k + 1) (slice_set xs k x), behind)
list_set f xs k x from between behind within h step =
    subst (λ ys. in_list true (map f ys) from ≡ (ys, behind)) (sym (take_more_set xs k x within))
    (list_more f (nat_eq k 0) (take k xs) x from between behind (none_taken xs k within) (taken_none xs k within) h step)

-- what tells nothing of a part's place tells the same of the list
pub mapped_set : {A B : Type 0} (f : A → B) (xs : List A) (k : ℕ) (x was : A) → was ≡ get_or xs k was → f x ≡ f was →
    map f (slice_set xs k x) ≡ map f xs
mapped_set f xs k x was is same = map-set_same f xs k x was (same ∙ ap f is)
