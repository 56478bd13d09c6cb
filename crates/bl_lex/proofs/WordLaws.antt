-- A word is one thing: the lists of reserved words have each word once, and no word spells two numbers.
use Rattle.std.proofs.Common.{◌≡◌, ℕ, zero, suc, ◌<◌, ◌≤◌, Bool, true, false, not, ◌&&◌, ◌||◌, List, [], ◌∷◌, ◌⊎◌, inl, inr, ⊎_elim, get_or, refl, ap, subst}
use Rattle.std.proofs.Common.{arith}
use Rattle.std.proofs.lemmas.Bool.Decides.{nat_tests}
use Rattle.std.proofs.lemmas.Slice.Eq.{bytes_eq-Decides}
use Rattle.std.specs.Prelude.{slice_get, Some}
use Rattle.std.specs.List.{list_all, list_any}
use Rattle.std.specs.Str.{bytes_eq}
use Rattle.std.specs.Char.{digit_value}
use Rattle.std.proofs.lemmas.Bool.{not-true}
use Rattle.bl_tree.proofs.Basics.{all_at}
use Rattle.bl_lex.specs.Spelling.{keywords, words_outside, signs, begins_with_digit, IsDigits, IsNumber, IsOctal}
use Rattle.bl_lex.proofs.Numbers.{number_cases, not_decimal-mark}

-- each element stands once
distinct : List (List ℕ) → Bool
distinct [] = true
distinct (x ∷ xs) = not (list_any (bytes_eq x) xs) && distinct xs

-- an element of the list is found in it
found : (xs : List (List ℕ)) (k : ℕ) (w : List ℕ) → slice_get xs k ≡ Some w → list_any (bytes_eq w) xs ≡ true
found [] k w is = cc
found (x ∷ xs) zero w is = let e : w ≡ x = cc in let same = (bytes_eq-Decides w x).1 e in grind (arith, same)
found (x ∷ xs) (suc k) w is = let later = found xs k w is in either_way _ _ later
  where
    either_way : (a b : Bool) → b ≡ true → (a || b) ≡ true
    either_way true b e = refl
    either_way false b e = e

both_true : (a b : Bool) → not a && b ≡ true → (a ≡ false) × (b ≡ true)
both_true true b is = cc
both_true false b is = (refl, is)

once : (xs : List (List ℕ)) (k j : ℕ) (w : List ℕ) → distinct xs ≡ true → slice_get xs k ≡ Some w → slice_get xs j ≡ Some w → k ≡ j
unfolding distinct
once [] k j w all a b = cc
once (x ∷ xs) zero zero w all a b = refl
once (x ∷ xs) zero (suc j) w all a b = let e : w ≡ x = cc in let absent =
    (both_true (list_any (bytes_eq x) xs) (distinct xs) all).0 in let present =
    subst (λ (v : List ℕ). list_any (bytes_eq v) xs ≡ true) e (found xs j w b) in cc
once (x ∷ xs) (suc k) zero w all a b = let e : w ≡ x = cc in let absent =
    (both_true (list_any (bytes_eq x) xs) (distinct xs) all).0 in let present =
    subst (λ (v : List ℕ). list_any (bytes_eq v) xs ≡ true) e (found xs k w a) in cc
once (x ∷ xs) (suc k) (suc j) w all a b = ap suc (once xs k j w (both_true (list_any (bytes_eq x) xs) (distinct xs) all).1 a b)

keywords_distinct : distinct keywords ≡ true
unfolding keywords distinct
keywords_distinct = refl

signs_distinct : distinct signs ≡ true
unfolding signs distinct
signs_distinct = refl

pub one_keyword : (k j : ℕ) (w : List ℕ) → slice_get keywords k ≡ Some w → slice_get keywords j ≡ Some w → k ≡ j
one_keyword k j w a b = once keywords k j w keywords_distinct a b

pub one_sign : (k j : ℕ) (w : List ℕ) → slice_get signs k ≡ Some w → slice_get signs j ≡ Some w → k ≡ j
one_sign k j w a b = once signs k j w signs_distinct a b

-- a keyword isn't outside the profile
is_inside : List ℕ → Bool
is_inside word = not (list_any (bytes_eq word) words_outside)

keywords_inside : list_all is_inside keywords ≡ true
unfolding keywords words_outside is_inside
keywords_inside = refl

pub keyword_not_outside : (k j : ℕ) (w : List ℕ) → slice_get keywords k ≡ Some w → slice_get words_outside j ≡ Some w → ⊥
unfolding is_inside
keyword_not_outside k j w a b = clash (list_any (bytes_eq w) words_outside) (found words_outside j w b) (all_at is_inside keywords k w keywords_inside a)
  where
    clash : (b : Bool) → b ≡ true → not b ≡ true → ⊥
    clash true is isnt = cc
    clash false is isnt = cc

-- a reserved word doesn't begin with a digit
begins_otherwise : List ℕ → Bool
begins_otherwise word = not (begins_with_digit word)

keywords_begin : list_all begins_otherwise keywords ≡ true
unfolding keywords begins_otherwise
keywords_begin = refl

words_outside_begin : list_all begins_otherwise words_outside ≡ true
unfolding words_outside begins_otherwise
words_outside_begin = refl

pub keyword_begins : (k : ℕ) (w : List ℕ) → slice_get keywords k ≡ Some w → begins_with_digit w ≡ false
unfolding begins_otherwise
keyword_begins k w is = not-true _ (all_at begins_otherwise keywords k w keywords_begin is)

pub outside_begins : (k : ℕ) (w : List ℕ) → slice_get words_outside k ≡ Some w → begins_with_digit w ≡ false
unfolding begins_otherwise
outside_begins k w is = not-true _ (all_at begins_otherwise words_outside k w words_outside_begin is)

-- decimal digits begin with a digit
pub decimal_begins : (w : List ℕ) → IsDigits 10 w → begins_with_digit w ≡ true
decimal_begins w is = digit_small (get_or w 0 0) (is.each 0 0 is.nonempty)
  where
    digit_small : (c : ℕ) → digit_value c < 10 → begins_with_digit (c ∷ []) ≡ true
    digit_small c small = grind (arith, nat_tests)

pub number_begins : {w : List ℕ} {n : ℕ} → IsNumber w n → begins_with_digit w ≡ true
number_begins {w} is = ⊎_elim (λ d. decimal_begins w d.0) (⊎_elim (λ h. rw h.1 refl) (λ h. rw h.1 refl)) (number_cases is)

pub octal_begins : (w : List ℕ) → IsOctal w → begins_with_digit w ≡ true
octal_begins w is = rw is.1 refl

-- what has the letter of a base isn't decimal
not_marked : {w : List ℕ} (mark : ℕ) (digits : List ℕ) → w ≡ 48 ∷ mark ∷ digits → 10 ≤ digit_value mark → ¬ IsDigits 10 w
not_marked mark digits e great is = let small = not_decimal-mark mark digits (subst (IsDigits 10) e is) in omega arith

-- a word spells one number
pub one_number : {w : List ℕ} {n m : ℕ} → IsNumber w n → IsNumber w m → n ≡ m
one_number {w} a b = ⊎_elim
    (λ d. ⊎_elim (λ e. cc) (⊎_elim (λ h. absurd (not_marked 120 h.0 h.1 (omega arith) d.0))
    (λ h. absurd (not_marked 98 h.0 h.1 (omega arith) d.0))) (number_cases b))
    (⊎_elim
    (λ g. ⊎_elim (λ d. absurd (not_marked 120 g.0 g.1 (omega arith) d.0))
    (⊎_elim (λ h. let e : g.0 ≡ h.0 = cc in cc) (λ h. absurd (two_marks g.1 h.1))) (number_cases b))
    (λ g. ⊎_elim (λ d. absurd (not_marked 98 g.0 g.1 (omega arith) d.0))
    (⊎_elim (λ h. absurd (two_marks h.1 g.1)) (λ h. let e : g.0 ≡ h.0 = cc in cc)) (number_cases b)))
    (number_cases a)
  where
    two_marks : {g h : List ℕ} → w ≡ 48 ∷ 120 ∷ g → w ≡ 48 ∷ 98 ∷ h → ⊥
    two_marks a b = let e : ◌≡◌ {A = ℕ} 120 98 = cc in omega arith

pub number_not_octal : {w : List ℕ} {n : ℕ} → IsNumber w n → ¬ IsOctal w
number_not_octal {w} a b = ⊎_elim (λ d. not_marked 111 b.0 b.1 (omega arith) d.0)
    (⊎_elim (λ h. two_marks 120 h.1 b.1 (inr (omega arith))) (λ h. two_marks 98 h.1 b.1 (inl (omega arith)))) (number_cases a)
  where
    two_marks : (mark : ℕ) {g h : List ℕ} → w ≡ 48 ∷ mark ∷ g → w ≡ 48 ∷ 111 ∷ h → (mark < 111) ⊎ (111 < mark) → ⊥
    two_marks mark a b other = let e : ◌≡◌ {A = ℕ} mark 111 = cc in omega arith
