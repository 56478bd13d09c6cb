-- Small lemmas on tests, options, numbers and lists that proofs of many crates cite. What the library has is not among them.
use Rattle.bl_tree.specs.Reduce.{all_of}
use Rattle.std.proofs.Common.{Bool, List, None, Option, Some, add-one, ap, arith, cond, drop, drop-cons, eqb-true, false, get_or, inl, inr, length, map, nat_eq}
use Rattle.std.proofs.Common.{nat_le, nat_lt, not, refl, subst, suc, sym, take, true, zero, ℕ, ⊎_elim, ◌%◌, ◌&&◌, ◌++◌, ◌+◌, ◌-◌, ◌<◌, ◌||◌, ◌∙◌, ◌∷◌, ◌≡◌, ◌≤◌}
use Rattle.std.proofs.Common.{◌⊎◌}
use Rattle.std.proofs.lemmas.Bool.{and_from, eq-eqb, le-leb, or_left, or_right}
use Rattle.std.proofs.lemmas.Bool.Decides.{nat_tests}
use Rattle.std.proofs.lemmas.Cmp.{nat_list_eq_equiv}
use Rattle.std.proofs.lemmas.List.Folds.{list_all-append}
use Rattle.std.proofs.lemmas.Option.{get_or_from_slice_get, same_Some, slice_get-map, slice_get_within}
use Rattle.std.proofs.str.Laws.{order}
use Rattle.std.specs.List.{list_all, list_any}
use Rattle.std.specs.Prelude.{Contains, [], bytes_eq, is_none, option_map, slice_get}

-- ---- what &&, || and not say

pub and_first : (a b : Bool) → (a && b) ≡ true → a ≡ true
and_first true b e = refl
and_first false b e = e

pub and_second : (a b : Bool) → (a && b) ≡ true → b ≡ true
and_second true b e = e
and_second false b e = cc

pub true_not_false : true ≡ false → ⊥
true_not_false e = cc

pub and_false : (b : Bool) → (b && false) ≡ false
and_false true = refl
and_false false = refl

pub neither_first : (a b : Bool) → (a || b) ≡ false → a ≡ false
neither_first true b h = h
neither_first false b h = refl

pub neither_second : (a b : Bool) → (a || b) ≡ false → b ≡ false
neither_second true b h = cc
neither_second false b h = h

pub or_false : (b : Bool) → (b || false) ≡ b
or_false true = refl
or_false false = refl

pub and_true : (a : Bool) → (a && true) ≡ a
and_true true = refl
and_true false = refl

pub from_false : {A : Type 0} → false ≡ true → A
from_false is = cc

pub either_of : (a b : Bool) → (a || b) ≡ true → (a ≡ true) ⊎ (b ≡ true)
either_of true b e = inl refl
either_of false b e = inr e

pub or_true : (a : Bool) → (a || true) ≡ true
or_true true = refl
or_true false = refl

pub true_and_false : (b : Bool) → b ≡ true → b ≡ false → ⊥
true_and_false b h i = cc

pub and_assoc : (a b c : Bool) → ((a && b) && c) ≡ (a && (b && c))
and_assoc true b c = refl
and_assoc false b c = refl

pub or_assoc : (a b c : Bool) → ((a || b) || c) ≡ (a || (b || c))
or_assoc true b c = refl
or_assoc false b c = refl

pub and_regroup : (a b c : Bool) → (a && (b && c)) ≡ ((a && b) && c)
and_regroup true b c = refl
and_regroup false b c = refl

pub not_both : {A : Type 0} (b : Bool) → b ≡ false → b ≡ true → A
not_both true e f = absurd (cc)
not_both false e f = absurd (cc)

pub second_false : (a b : Bool) → b ≡ false → (a && b) ≡ false
second_false true b e = e
second_false false b e = refl

pub false_not_true : false ≡ true → ⊥
false_not_true e = cc

pub or_regroup : (a b c : Bool) → (a || (b || c)) ≡ ((a || b) || c)
or_regroup true b c = refl
or_regroup false b c = refl

pub not_of_false : (b : Bool) → b ≡ false → not b ≡ true
not_of_false b e = ap not e

pub from_true_false : {A : Type 0} → true ≡ false → A
from_true_false is = absurd cc

pub either_case : {A : Type 0} (a b : Bool) → (a || b) ≡ true → (a ≡ true → A) → (b ≡ true → A) → A
either_case true b e one other = one refl
either_case false b e one other = other e

pub cond_or : (a b : Bool) → cond a true b ≡ (a || b)
cond_or true b = refl
cond_or false b = refl

pub or_swap : (a b c : Bool) → (a || (b || c)) ≡ (b || (a || c))
or_swap true true c = refl
or_swap true false c = refl
or_swap false b c = refl

pub true_false_any : {X : Type 0} (b : Bool) → b ≡ true → b ≡ false → X
true_false_any b one other = absurd (cc)

pub first_of_or : (a : Bool) → (a || false) ≡ true → a ≡ true
first_of_or true e = refl
first_of_or false e = e

-- ---- what is some, and what is none

pub same_some : {A : Type 0} (a b : A) → Some a ≡ Some b → a ≡ b
same_some a b h = cc

pub one_some : {A : Type 0} (x y : A) (o : Option A) → o ≡ Some x → o ≡ Some y → x ≡ y
one_some x y o e f = let is : Some x ≡ Some y = sym e ∙ f in cc

pub none_is_some : {X A : Type 0} (x : X) → None ≡ Some x → A
none_is_some x e = absurd (cc)

pub none_from : {A : Type 0} (o : Option A) → is_none o ≡ true → o ≡ None
none_from None is = refl
none_from (Some x) is = absurd (cc)

pub is_none_of : {A : Type 0} (o : Option A) → o ≡ None → is_none o ≡ true
is_none_of None is = refl
is_none_of (Some x) is = absurd (cc)

-- ---- numbers and their tests

pub same_number : (j k : ℕ) → nat_eq j k ≡ true → j ≡ k
same_number j k e = eqb-true j k e

pub number_itself : (n : ℕ) → nat_eq n n ≡ true
number_itself n = eq-eqb n n refl

pub contains_none : {A : Type 0} (x : A) → Contains [] x → ⊥
contains_none x there = omega (arith, there.1)

pub numbers_differ : (a b : ℕ) → (a ≡ b → ⊥) → nat_eq a b ≡ false
numbers_differ a b not =
    elim (nat_eq a b) as (λ t. nat_eq a b ≡ t → t ≡ false) [
      | true ↦ λ is. absurd (not (grind (arith, nat_tests)))
      | false ↦ λ is. refl
    ] refl

pub less_test : (a b : ℕ) → a < b → nat_lt a b ≡ true
less_test a b h = grind (arith, nat_tests)

pub less_from : (a b : ℕ) → nat_lt a b ≡ true → a < b
less_from a b h = grind (arith, nat_tests)

pub plus_none : (n : ℕ) → n ≡ n + 0
plus_none n = omega arith

pub at_most_test : (a b : ℕ) → a ≤ b → nat_le a b ≡ true
at_most_test a b h = grind (arith, nat_tests)

pub none_plus : (k : ℕ) → 0 + k ≡ k
none_plus k = omega arith

pub at_most_itself : (n : ℕ) → n ≤ n
at_most_itself n = omega arith

pub less_or_not : (a b : ℕ) → (a < b) ⊎ (b ≤ a)
less_or_not a b = order a b

pub number_test_swap : (x y : ℕ) → nat_eq x y ≡ nat_eq y x
number_test_swap x y = grind (arith, nat_tests)

pub at_most_self_test : (n : ℕ) → nat_le n n ≡ true
at_most_self_test n = le-leb n n (omega arith)

pub at_most_from : (a b : ℕ) → nat_le a b ≡ true → a ≤ b
at_most_from a b h = grind (arith, nat_tests)

pub last_digit : (n : ℕ) → n % 10 < 10
last_digit n = omega arith

pub contains_one : {A : Type 0} (x y : A) → Contains (x ∷ []) y → x ≡ y
contains_one x y (zero, below, is) = is
contains_one x y (suc k, below, is) = absurd (omega arith)

pub none_at_most : (n : ℕ) → 0 ≤ n
none_at_most n = omega arith

pub plus_one : (k : ℕ) → k + 1 ≡ suc k
plus_one k = omega arith

pub number_test : (j k : ℕ) → j ≡ k → nat_eq j k ≡ true
number_test j k e = eq-eqb j k e

pub at_most_then : (a b c : ℕ) → a ≤ b → b ≤ c → a ≤ c
at_most_then a b c h k = omega arith

pub below_or_last : (k n : ℕ) → k < suc n → (k < n) ⊎ (k ≡ n)
below_or_last zero zero below = inr refl
below_or_last zero (suc n) below = inl (omega arith)
below_or_last (suc k) zero below = absurd (omega (arith, below))
below_or_last (suc k) (suc n) below = ⊎_elim (λ less. inl (omega (arith, less))) (λ is. inr (ap suc is))
    (below_or_last k n (omega (arith, below)))

pub same_suc : (j k : ℕ) → suc j ≡ suc k → j ≡ k
same_suc j k is = cc

-- ---- lists: what stands where

pub contains_at : {A : Type 0} (xs : List A) (k : ℕ) (x : A) → slice_get xs k ≡ Some x → Contains xs x
contains_at xs k x there = (k, slice_get_within xs k x there, get_or_from_slice_get xs k x x there)

pub drop_next : {A : Type 0} (xs : List A) (i : ℕ) (x : A) → i < length xs → x ≡ get_or xs i x → drop i xs ≡ x ∷ drop (i + 1) xs
drop_next xs i x h e = rw (add-one, drop-cons xs i x h) (ap (λ y. y ∷ drop (suc i) xs) (sym e))

pub contains_further : {A : Type 0} (y : A) (xs : List A) (x : A) → Contains xs x → Contains (y ∷ xs) x
contains_further y xs x (k, within, is) = (suc k, omega arith, is)

pub contains_first : {X : Type 0} (x : X) (xs : List X) → Contains (x ∷ xs) x
contains_first x xs = (0, omega arith, refl)

pub map_length : {A B : Type 0} (f : A → B) (xs : List A) → length (map f xs) ≡ length xs
map_length f [] = refl
map_length f (x ∷ xs) = ap suc (map_length f xs)

pub get_in_front : {A : Type 0} (xs ys : List A) (i : ℕ) (x : A) → slice_get xs i ≡ Some x → slice_get (xs ++ ys) i ≡ Some x
get_in_front [] ys i x is = cc
get_in_front (y ∷ xs) ys zero x is = is
get_in_front (y ∷ xs) ys (suc i) x is = get_in_front xs ys i x is

pub get_within : {A : Type 0} (xs : List A) (k : ℕ) (d : A) → k < length xs → slice_get xs k ≡ Some (get_or xs k d)
get_within [] k d within = absurd (omega arith)
get_within (x ∷ xs) zero d within = refl
get_within (x ∷ xs) (suc k) d within = get_within xs k d (omega arith)

pub get_mapped : {X Y : Type 0} (f : X → Y) (xs : List X) (k : ℕ) (x : X) → slice_get xs k ≡ Some x → slice_get (map f xs) k ≡ Some (f x)
get_mapped f xs k x has = slice_get-map f xs k ∙ ap (option_map f) has

pub some_within : {A : Type 0} (xs : List A) (k : ℕ) → k < length xs → (x : A) × (slice_get xs k ≡ Some x)
some_within [] k less = absurd (omega arith)
some_within (x ∷ xs) zero less = (x, refl)
some_within (x ∷ xs) (suc k) less = some_within xs k (omega arith)

pub first_or_further : {X : Type 0} (x : X) (xs : List X) (y : X) → Contains (x ∷ xs) y → (x ≡ y) ⊎ Contains xs y
first_or_further x xs y (zero, within, is) = inl is
first_or_further x xs y (suc k, within, is) = inr (k, omega arith, is)

pub index_of : {A : Type 0} (xs : List A) (x : A) → Contains xs x → (k : ℕ) × (slice_get xs k ≡ Some x)
index_of [] x there = let below = there.1 in absurd (omega arith)
index_of (y ∷ xs) x (zero, within, is) = (zero, ap Some is)
index_of (y ∷ xs) x (suc k, within, is) = let rest = index_of xs x (k, omega arith, is) in (suc rest.0, rest.1)

pub all_of_each : {A : Type 0} (test : A → Bool) (xs : List A) → list_all test xs ≡ true → all_of (map test xs) ≡ true
all_of_each test [] e = refl
all_of_each test (x ∷ xs) e =
    and_from (test x) (all_of (map test xs)) (and_first (test x) (list_all test xs) e)
    (all_of_each test xs (and_second (test x) (list_all test xs) e))

pub within_at : {A : Type 0} (xs : List A) (k : ℕ) (x : A) → slice_get xs k ≡ Some x → k < length xs
within_at [] k x h = absurd (cc)
within_at (y ∷ xs) zero x h = omega arith
within_at (y ∷ xs) (suc k) x h = let rest = within_at xs k x h in omega (arith, rest)

pub both_empty : {A : Type 0} (a b : List A) → a ++ b ≡ [] → (a ≡ []) × (b ≡ [])
both_empty [] b h = (refl, h)
both_empty (x ∷ a) b h = absurd (cc)

pub get_front : {A : Type 0} (xs ys : List A) (n : ℕ) → n < length xs → slice_get (xs ++ ys) n ≡ slice_get xs n
get_front [] ys n within = absurd (omega arith)
get_front (x ∷ xs) ys zero within = refl
get_front (x ∷ xs) ys (suc n) within = get_front xs ys n (omega arith)

pub get_seam : {A : Type 0} (xs : List A) (y : A) (ys : List A) → slice_get (xs ++ y ∷ ys) (length xs) ≡ Some y
get_seam [] y ys = refl
get_seam (x ∷ xs) y ys = get_seam xs y ys

pub all_at : {X : Type 0} (p : X → Bool) (xs : List X) (k : ℕ) (x : X) → list_all p xs ≡ true → slice_get xs k ≡ Some x → p x ≡ true
all_at p [] k x all is = cc
all_at p (y ∷ ys) zero x all is = grind arith
all_at p (y ∷ ys) (suc k) x all is = grind (arith, all_at p ys k x)

pub drop_past : {A : Type 0} (xs : List A) (n : ℕ) → length xs ≤ n → drop n xs ≡ []
drop_past [] zero h = refl
drop_past [] (suc n) h = refl
drop_past (x ∷ xs) zero h = absurd (omega arith)
drop_past (x ∷ xs) (suc n) h = drop_past xs n (omega arith)

pub get_taken : {A : Type 0} (xs : List A) (n k : ℕ) → k < n → slice_get (take n xs) k ≡ slice_get xs k
get_taken xs zero k lt = absurd (omega arith)
get_taken [] (suc n) k lt = refl
get_taken (x ∷ xs) (suc n) zero lt = refl
get_taken (x ∷ xs) (suc n) (suc k) lt = let less : k < n = omega arith in get_taken xs n k less

pub take_next : {A : Type 0} (xs : List A) (n : ℕ) (x : A) → slice_get xs n ≡ Some x → take (suc n) xs ≡ take n xs ++ x ∷ []
take_next [] n x is = absurd (cc)
take_next (y ∷ xs) zero x is = ap (λ y. y ∷ []) (same_Some y x is)
take_next (y ∷ xs) (suc n) x is = ap (λ rest. y ∷ rest) (take_next xs n x is)

pub all_append : {A : Type 0} (test : A → Bool) (xs ys : List A) → list_all test xs ≡ true → list_all test ys ≡ true →
    list_all test (xs ++ ys) ≡ true
all_append test xs ys one two = list_all-append test xs ys ∙ and_from (list_all test xs) (list_all test ys) one two

pub push_length : {A : Type 0} (xs : List A) (y : A) → length (xs ++ y ∷ []) ≡ suc (length xs)
push_length [] y = refl
push_length (x ∷ xs) y = ap suc (push_length xs y)

pub contains_mapped : {X Y : Type 0} (f : X → Y) (xs : List X) (x : X) → Contains xs x → Contains (map f xs) (f x)
contains_mapped f [] x (k, below, is) = absurd (omega (arith, below))
contains_mapped f (y ∷ xs) x (zero, below, is) = subst (λ z. Contains (f y ∷ map f xs) (f z)) is (contains_first (f y) (map f xs))
contains_mapped f (y ∷ xs) x (suc k, below, is) =
    contains_further (f y) (map f xs) (f x) (contains_mapped f xs x (k, omega (arith, below), is))

pub map_append : {A B : Type 0} (f : A → B) (xs ys : List A) → map f (xs ++ ys) ≡ map f xs ++ map f ys
map_append f [] ys = refl
map_append f (x ∷ xs) ys = ap (λ rest. f x ∷ rest) (map_append f xs ys)

pub same_heads : {X : Type 0} (x y : X) (xs ys : List X) → x ∷ xs ≡ y ∷ ys → x ≡ y
same_heads x y xs ys e = cc

pub get_behind : {A : Type 0} (xs ys : List A) (k : ℕ) → slice_get (xs ++ ys) (length xs + k) ≡ slice_get ys k
get_behind [] ys k = let same : 0 + k ≡ k = omega arith in ap (slice_get ys) same
get_behind (x ∷ xs) ys k = let same : suc (length xs) + k ≡ suc (length xs + k) = omega arith in
    ap (slice_get (x ∷ (xs ++ ys))) same ∙ get_behind xs ys k

pub drop_at : {A : Type 0} (xs : List A) (k : ℕ) (x : A) → slice_get xs k ≡ Some x → drop k xs ≡ x ∷ drop (suc k) xs
drop_at [] k x there = absurd (cc)
drop_at {A} (y ∷ xs) zero x there = ap (λ (z : A). z ∷ xs) (same_Some y x there)
drop_at (y ∷ xs) (suc k) x there = drop_at xs k x there

pub any_from : {X : Type 0} (test : X → Bool) (xs : List X) (x : X) → Contains xs x → test x ≡ true → list_any test xs ≡ true
any_from test [] x (k, below, is) on = absurd (omega arith)
any_from test (y ∷ xs) x (zero, below, is) on =
    or_left (test y) (list_any test xs) (subst (λ z. test z ≡ true) (sym is) on)
any_from test (y ∷ xs) x (suc k, below, is) on =
    or_right (test y) (list_any test xs) (any_from test xs x (k, omega arith, is) on)

pub take_front : {A : Type 0} (xs ys : List A) → take (length xs) (xs ++ ys) ≡ xs
take_front [] ys = refl
take_front (x ∷ xs) ys = ap (λ rest. x ∷ rest) (take_front xs ys)

pub get_past : {A : Type 0} (xs : List A) (k : ℕ) → length xs ≤ k → slice_get xs k ≡ None
get_past [] k past = refl
get_past (x ∷ xs) zero past = absurd (omega arith)
get_past (x ∷ xs) (suc k) past = get_past xs k (omega arith)

pub all_weaker : {A : Type 0} (p q : A → Bool) → ((x : A) → p x ≡ true → q x ≡ true) → (xs : List A) → list_all p xs ≡ true →
    list_all q xs ≡ true
all_weaker p q more [] h = refl
all_weaker p q more (x ∷ xs) h =
    and_from (q x) (list_all q xs) (more x (and_first (p x) (list_all p xs) h)) (all_weaker p q more xs (and_second (p x) (list_all p xs) h))

pub all_is_all_of : {A : Type 0} (test : A → Bool) (xs : List A) → list_all test xs ≡ all_of (map test xs)
all_is_all_of test [] = refl
all_is_all_of test (x ∷ xs) = ap (λ b. test x && b) (all_is_all_of test xs)

pub same_tails : {A : Type 0} (a b : A) (us vs : List A) → a ∷ us ≡ b ∷ vs → us ≡ vs
same_tails a b us vs e = cc

pub first_empty : {A : Type 0} (xs ys : List A) → xs ++ ys ≡ [] → xs ≡ []
first_empty [] ys h = refl
first_empty (x ∷ xs) ys h = cc

pub second_empty : {A : Type 0} (xs ys : List A) → xs ++ ys ≡ [] → ys ≡ []
second_empty [] ys h = h
second_empty (x ∷ xs) ys h = cc

pub drop_none : {A : Type 0} (xs : List A) → drop 0 xs ≡ xs
drop_none [] = refl
drop_none (x ∷ xs) = refl

pub get_of_map : {A B : Type 0} (f : A → B) (xs : List A) (k : ℕ) (b : B) → slice_get (map f xs) k ≡ Some b →
    (x : A) × (slice_get xs k ≡ Some x) × (f x ≡ b)
get_of_map f [] k b is = absurd (cc)
get_of_map f (x ∷ xs) zero b is = (x, refl, same_Some (f x) b is)
get_of_map f (x ∷ xs) (suc k) b is = get_of_map f xs k b is

pub any_push : {A : Type 0} (p : A → Bool) (xs : List A) (x : A) → list_any p (xs ++ x ∷ []) ≡ (p x || list_any p xs)
any_push p [] x = refl
any_push p (y ∷ xs) x = ap (λ b. p y || b) (any_push p xs x) ∙ or_swap (p y) (p x) (list_any p xs)

pub bytes_differ_swap : (a b : List ℕ) → bytes_eq a b ≡ false → bytes_eq b a ≡ false
bytes_differ_swap a b h = nat_list_eq_equiv.symm b a ∙ h

pub map_push : {A B : Type 0} (f : A → B) (xs : List A) (y : A) → map f (xs ++ y ∷ []) ≡ map f xs ++ f y ∷ []
map_push f [] y = refl
map_push f (x ∷ xs) y = ap (λ zs. f x ∷ zs) (map_push f xs y)

pub get_last : {A : Type 0} (xs : List A) (y : A) → slice_get (xs ++ y ∷ []) (length xs) ≡ Some y
get_last [] y = refl
get_last (x ∷ xs) y = get_last xs y

pub none_within : {A : Type 0} (xs : List A) (k : ℕ) → k < length xs → slice_get xs k ≡ None → ⊥
none_within [] k below e = omega (arith, below)
none_within (x ∷ xs) zero below e = cc
none_within (x ∷ xs) (suc k) below e = none_within xs k (omega (arith, below)) e
