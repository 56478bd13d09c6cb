-- Lists of numbers that ascend, and lists that are picked from others.
use Rattle.std.proofs.Common.{◌≡◌, ℕ, zero, suc, ◌<◌, Bool, true, List, [], ◌∷◌, ◌++◌, map, Some, refl, sym, ap, subst, inl, inr, ⊎_elim, arith}
use Rattle.std.specs.Prelude.{nat_lt, slice_get}
use Rattle.std.specs.List.{list_all}
use Rattle.std.proofs.lemmas.Bool.Decides.{nat_tests}
use Rattle.std.proofs.lemmas.Option.{same_Some}
use Rattle.std.proofs.lemmas.Bool.{and_from}
use Rattle.bl_tree.proofs.Basics.{and_first, and_second}
use Rattle.bl_tree.specs.Reduce.{joined}
use Rattle.bl_tree.proofs.FirstLemmas.{In}
use Rattle.bl_parse_tree.specs.Starts.{ascends}

-- ---- lists picked from others

-- the first list is the second one, from which some elements are left out
pub data Picked : List ℕ → List ℕ → Type 0 where
  none : Picked [] []
  left : {xs ys : List ℕ} (y : ℕ) → Picked xs ys → Picked xs (y ∷ ys)
  taken : {xs ys : List ℕ} (x : ℕ) → Picked xs ys → Picked (x ∷ xs) (x ∷ ys)

pub picked_none : (ys : List ℕ) → Picked [] ys
picked_none [] = none
picked_none (y ∷ ys) = left y (picked_none ys)

pub picked_self : (xs : List ℕ) → Picked xs xs
picked_self [] = none
picked_self (x ∷ xs) = taken x (picked_self xs)

pub picked_append : {a b c d : List ℕ} → Picked a b → Picked c d → Picked (a ++ c) (b ++ d)
picked_append none rest = rest
picked_append (left y more) rest = left y (picked_append more rest)
picked_append (taken x more) rest = taken x (picked_append more rest)

picked_all : (test : ℕ → Bool) {xs ys : List ℕ} → Picked xs ys → list_all test ys ≡ true → list_all test xs ≡ true
picked_all test none all = refl
picked_all test (left {xs} {ys} y more) all = picked_all test more (and_second (test y) (list_all test ys) all)
picked_all test (taken {xs} {ys} x more) all =
    and_from (test x) (list_all test xs) (and_first (test x) (list_all test ys) all) (picked_all test more (and_second (test x) (list_all test ys) all))

-- what is picked from a list that ascends does too
pub picked_ascends : {xs ys : List ℕ} → Picked xs ys → ascends ys ≡ true → ascends xs ≡ true
picked_ascends none up = refl
picked_ascends (left {xs} {ys} y more) up = picked_ascends more (and_second (list_all (nat_lt y) ys) (ascends ys) up)
picked_ascends (taken {xs} {ys} x more) up =
    and_from (list_all (nat_lt x) xs) (ascends xs) (picked_all (nat_lt x) more (and_first (list_all (nat_lt x) ys) (ascends ys) up))
    (picked_ascends more (and_second (list_all (nat_lt x) ys) (ascends ys) up))

-- ---- members of lists

pub in_left : {A : Type 0} (x : A) (xs ys : List A) → In x xs → In x (xs ++ ys)
in_left x [] ys there = absurd there
in_left x (y ∷ xs) ys there = ⊎_elim (λ is. inl is) (λ later. inr (in_left x xs ys later)) there

pub in_right : {A : Type 0} (x : A) (xs ys : List A) → In x ys → In x (xs ++ ys)
in_right x [] ys there = there
in_right x (y ∷ xs) ys there = inr (in_right x xs ys there)

pub in_at : {A : Type 0} (xs : List A) (k : ℕ) (x : A) → slice_get xs k ≡ Some x → In x xs
in_at [] k x is = absurd (cc)
in_at (y ∷ xs) zero x is = inl (sym (same_Some y x is))
in_at (y ∷ xs) (suc k) x is = inr (in_at xs k x is)

-- a member of what is picked is one of the whole
pub picked_in : {xs ys : List ℕ} → Picked xs ys → (n : ℕ) → In n xs → In n ys
picked_in none n there = absurd there
picked_in (left y more) n there = inr (picked_in more n there)
picked_in (taken x more) n there = ⊎_elim (λ is. inl is) (λ later. inr (picked_in more n later)) there

-- a member of the list that is made of a member of another
pub in_joined : {A B : Type 0} (f : A → List B) (xs : List A) (x : A) (y : B) → In x xs → In y (f x) → In y (joined (map f xs))
in_joined f [] x y there inside = absurd there
in_joined f (z ∷ xs) x y there inside =
    ⊎_elim (λ is. in_left y (f z) (joined (map f xs)) (subst (λ x. In y (f x)) is inside))
    (λ later. in_right y (f z) (joined (map f xs)) (in_joined f xs x y later inside)) there

-- ---- members of lists that ascend

above : (n : ℕ) (xs : List ℕ) (x : ℕ) → list_all (nat_lt n) xs ≡ true → In x xs → n < x
above n [] x all there = absurd there
above n (y ∷ xs) x all there =
    ⊎_elim (λ is. let first = and_first (nat_lt n y) (list_all (nat_lt n) xs) all in let less : n < y = grind (arith, nat_tests) in omega arith)
    (λ later. above n xs x (and_second (nat_lt n y) (list_all (nat_lt n) xs) all) later) there

-- the first is less than all later ones
pub first_less : (n : ℕ) (xs : List ℕ) (x : ℕ) → ascends (n ∷ xs) ≡ true → In x xs → n < x
first_less n xs x up there = above n xs x (and_first (list_all (nat_lt n) xs) (ascends xs) up) there

pub ascends_rest : (n : ℕ) (xs : List ℕ) → ascends (n ∷ xs) ≡ true → ascends xs ≡ true
ascends_rest n xs up = and_second (list_all (nat_lt n) xs) (ascends xs) up

all_before : (test : ℕ → Bool) (xs ys : List ℕ) → list_all test (xs ++ ys) ≡ true → list_all test xs ≡ true
all_before test [] ys all = refl
all_before test (x ∷ xs) ys all =
    and_from (test x) (list_all test xs) (and_first (test x) (list_all test (xs ++ ys)) all)
    (all_before test xs ys (and_second (test x) (list_all test (xs ++ ys)) all))

pub ascends_left : (xs ys : List ℕ) → ascends (xs ++ ys) ≡ true → ascends xs ≡ true
ascends_left [] ys up = refl
ascends_left (x ∷ xs) ys up =
    and_from (list_all (nat_lt x) xs) (ascends xs) (all_before (nat_lt x) xs ys (and_first (list_all (nat_lt x) (xs ++ ys)) (ascends (xs ++ ys)) up))
    (ascends_left xs ys (ascends_rest x (xs ++ ys) up))

pub ascends_right : (xs ys : List ℕ) → ascends (xs ++ ys) ≡ true → ascends ys ≡ true
ascends_right [] ys up = up
ascends_right (x ∷ xs) ys up = ascends_right xs ys (ascends_rest x (xs ++ ys) up)

-- a member of the first part is less than each of the second
parts_less : (xs ys : List ℕ) (x y : ℕ) → ascends (xs ++ ys) ≡ true → In x xs → In y ys → x < y
parts_less [] ys x y up one two = absurd one
parts_less (n ∷ xs) ys x y up one two =
    ⊎_elim (λ is. let less = first_less n (xs ++ ys) y up (in_right y xs ys two) in omega arith)
    (λ later. parts_less xs ys x y (ascends_rest n (xs ++ ys) up) later two) one

-- so no number is in and_from
pub parts_apart : (xs ys : List ℕ) (x : ℕ) → ascends (xs ++ ys) ≡ true → In x xs → In x ys → ⊥
parts_apart xs ys x up one two = let less = parts_less xs ys x x up one two in omega arith

module _ {A : Type 0} (f : A → List ℕ) where
  pub part_ascends : (xs : List A) (x : A) → ascends (joined (map f xs)) ≡ true → In x xs → ascends (f x) ≡ true
  part_ascends [] x up there = absurd there
  part_ascends (y ∷ xs) x up there =
      ⊎_elim (λ is. subst (λ x. ascends (f x) ≡ true) (sym is) (ascends_left (f y) (joined (map f xs)) up))
      (λ later. part_ascends xs x (ascends_right (f y) (joined (map f xs)) up) later) there

  -- a number is in what is made of one member alone
  pub one_part : (xs : List A) (x y : A) (n : ℕ) → ascends (joined (map f xs)) ≡ true → In x xs → In y xs → In n (f x) → In n (f y) → x ≡ y
  one_part [] x y n up one two in_x in_y = absurd one
  one_part (z ∷ xs) x y n up one two in_x in_y =
      let rest = joined (map f xs) in
      ⊎_elim
      (λ (p : x ≡ z).
      ⊎_elim (λ (q : y ≡ z). cc)
      (λ (q : In y xs). absurd (parts_apart (f z) rest n up (subst (λ x. In n (f x)) p in_x) (in_joined f xs y n q in_y))) two)
      (λ (p : In x xs).
      ⊎_elim (λ (q : y ≡ z). absurd (parts_apart (f z) rest n up (subst (λ y. In n (f y)) q in_y) (in_joined f xs x n p in_x)))
      (λ (q : In y xs). one_part xs x y n (ascends_right (f z) rest up) p q in_x in_y) two) one

  -- at one position
  pub one_position : (xs : List A) (j k : ℕ) (x y : A) (n : ℕ) → ascends (joined (map f xs)) ≡ true → slice_get xs j ≡ Some x →
      slice_get xs k ≡ Some y →
      In n (f x) → In n (f y) → j ≡ k
  one_position [] j k x y n up one two in_x in_y = absurd (cc)
  one_position (z ∷ xs) zero zero x y n up one two in_x in_y = refl
  one_position (z ∷ xs) zero (suc k) x y n up one two in_x in_y =
      absurd (parts_apart (f z) (joined (map f xs)) n up (subst (λ x. In n (f x)) (sym (same_Some z x one)) in_x) (in_joined f xs y n (in_at xs k y two) in_y))
  one_position (z ∷ xs) (suc j) zero x y n up one two in_x in_y =
      absurd (parts_apart (f z) (joined (map f xs)) n up (subst (λ y. In n (f y)) (sym (same_Some z y two)) in_y) (in_joined f xs x n (in_at xs j x one) in_x))
  one_position (z ∷ xs) (suc j) (suc k) x y n up one two in_x in_y =
      ap suc (one_position xs j k x y n (ascends_right (f z) (joined (map f xs)) up) one two in_x in_y)
