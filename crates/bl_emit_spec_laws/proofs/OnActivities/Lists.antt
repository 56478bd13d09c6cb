-- Positions in lists that are taken from others, and places that lie in none of a list.
use Rattle.std.proofs.Common.{◌≡◌, ℕ, zero, suc, ◌+◌, Bool, true, false, ◌||◌, List, [], ◌∷◌, ◌++◌}
use Rattle.std.proofs.Common.{drop, Some, refl, sym, ap, subst}
use Rattle.std.proofs.Common.{◌∙◌, arith}
use Rattle.std.specs.List.{list_any}
use Rattle.std.specs.Prelude.{slice_get}
use Rattle.bl_tree.proofs.Basics.{neither_first, neither_second}

-- and behind some elements, so much further on
pub get_drop : {A : Type 0} (m : ℕ) (xs : List A) (k : ℕ) (x : A) → slice_get (drop m xs) k ≡ Some x → slice_get xs (m + k) ≡ Some x
get_drop zero [] k x there = absurd (cc)
get_drop {A = A} zero (y ∷ xs) k x there =
    let same : k ≡ 0 + k = omega arith in subst (λ (n : ℕ). slice_get {X = A} (y ∷ xs) n ≡ Some x) same there
get_drop (suc m) [] k x there = absurd (cc)
get_drop {A = A} (suc m) (y ∷ xs) k x there =
    let same : suc (m + k) ≡ suc m + k = omega arith in
    subst (λ (n : ℕ). slice_get {X = A} (y ∷ xs) n ≡ Some x) same (get_drop m xs k x there)

-- ---- none of a list

-- what is true for none of two lists is true for none of each
pub any_left : {A : Type 0} (p : A → Bool) (xs ys : List A) → list_any p (xs ++ ys) ≡ false → list_any p xs ≡ false
any_left p [] ys is = refl
any_left p (x ∷ xs) ys is =
    both (p x) (list_any p xs) (neither_first (p x) (list_any p (xs ++ ys)) is) (any_left p xs ys (neither_second (p x) (list_any p (xs ++ ys)) is))
  where
    both : (a b : Bool) → a ≡ false → b ≡ false → (a || b) ≡ false
    both true b is more = is
    both false b is more = more

pub any_right : {A : Type 0} (p : A → Bool) (xs ys : List A) → list_any p (xs ++ ys) ≡ false → list_any p ys ≡ false
any_right p [] ys is = is
any_right p (x ∷ xs) ys is = any_right p xs ys (neither_second (p x) (list_any p (xs ++ ys)) is)

-- so it is of each element
pub any_at : {A : Type 0} (p : A → Bool) (xs : List A) (k : ℕ) (x : A) → list_any p xs ≡ false → slice_get xs k ≡ Some x → p x ≡ false
any_at p [] k x none there = absurd (cc)
any_at p (y ∷ xs) zero x none there = ap p (sym (Rattle.std.proofs.lemmas.Option.same_Some y x there)) ∙ neither_first (p y) (list_any p xs) none
any_at p (y ∷ xs) (suc k) x none there = any_at p xs k x (neither_second (p y) (list_any p xs) none) there
