-- The first position that passes a test.
use Rattle.std.proofs.Common.{◌≡◌, ◌≤◌, ◌+◌, ℕ, zero, suc, Bool, true, false, cond, not, List, [], ◌∷◌, ◌++◌, length, take, Option, Some, None, refl, sym, ap}
use Rattle.std.proofs.Common.{◌∙◌, arith, nat_lt, eqb}
use Rattle.std.specs.List.{position, position_or_len}
use Rattle.std.specs.Option.{option_or}
use Rattle.std.specs.Prelude.{slice_get}
use Rattle.std.proofs.lemmas.Bool.Decides.{nat_tests}
use Rattle.std.proofs.lemmas.List.Folds.{position_or_len_push}
use Rattle.std.proofs.lemmas.List.Sums.{prefix_len-le-length}
use Rattle.bl_ctree_store.proofs.ElementLemmas.{take_next}

first_or_next : (n m : ℕ) (b : Bool) → n ≤ m
    → cond (nat_lt (cond (eqb n m) (m + cond b 0 1) n) (suc m)) (Some (cond (eqb n m) (m + cond b 0 1) n)) None
    ≡ option_or (cond (nat_lt n m) (Some n) None) (cond b (Some m) None)
first_or_next n m true within = grind (arith, nat_tests)
first_or_next n m false within = grind (arith, nat_tests)

position_push : {A : Type 0} (p : A → Bool) (xs : List A) (x : A) →
    position p (xs ++ x ∷ []) ≡ option_or (position p xs) (cond (p x) (Some (length xs)) None)
position_push p xs x =
    ap (λ n. cond (nat_lt n (length (xs ++ x ∷ []))) (Some n) None) (position_or_len_push p xs x)
    ∙ ap (λ m. cond (nat_lt (cond (eqb (position_or_len p xs) (length xs)) (length xs + cond (p x) 0 1) (position_or_len p xs)) m)
    (Some (cond (eqb (position_or_len p xs) (length xs)) (length xs + cond (p x) 0 1) (position_or_len p xs))) None) (longer xs)
    ∙ first_or_next (position_or_len p xs) (length xs) (p x) (prefix_len-le-length (λ x. not (p x)) xs)
  where
    longer : (ys : List _) → length (ys ++ x ∷ []) ≡ suc (length ys)
    longer [] = refl
    longer (y ∷ ys) = ap suc (longer ys)

-- the first among one more element
pub position_more : {A : Type 0} (p : A → Bool) (xs : List A) (x : A) (k : ℕ) (before after : Option ℕ) → k ≤ length xs →
    slice_get xs k ≡ Some x → before ≡ position p (take k xs)
    → after ≡ option_or before (cond (p x) (Some k) None) → after ≡ position p (take (k + 1) xs)
position_more p xs x k before after within here is is_after =
    is_after ∙ ap (λ found. option_or found (cond (p x) (Some k) None)) is
    ∙ ap (λ n. option_or (position p (take k xs)) (cond (p x) (Some n) None)) (sym (taken xs k within))
    ∙ sym (position_push p (take k xs) x) ∙ ap (position p) (sym (take_next k xs x here))
  where
    taken : {A : Type 0} (ys : List A) (n : ℕ) → n ≤ length ys → length (take n ys) ≡ n
    taken [] zero fits = refl
    taken [] (suc n) fits = absurd (omega arith)
    taken (y ∷ ys) zero fits = refl
    taken (y ∷ ys) (suc n) fits = ap suc (taken ys n (omega arith))
