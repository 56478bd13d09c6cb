-- Tests that hold of all members of a list.
use Rattle.std.proofs.Common.{◌≡◌, Bool, true, ◌&&◌, List, [], ◌∷◌, ◌++◌, map, refl, ap, ◌∙◌}
use Rattle.std.specs.List.{list_all}
use Rattle.bl_tree.proofs.Basics.{all_is_all_of, and_first, and_second}
use Rattle.bl_tree.specs.Reduce.{all_of}
use Rattle.bl_parse_tree.specs.Names.{is_filled}

pub both : {a b : Bool} → a ≡ true → b ≡ true → (a && b) ≡ true
both h k = rw (h, k) refl

-- the test holds of each member
pub record Each {A : Type 0} (test : A → Bool) (xs : List A) : Type 0 where
  pub hold : all_of (map test xs) ≡ true

-- one more member
more_in : {A : Type 0} (test : A → Bool) (xs : List A) (x : A) → all_of (map test xs) ≡ true → test x ≡ true →
    all_of (map test (xs ++ x ∷ [])) ≡ true
more_in test [] x h k = both k refl
more_in test (y ∷ ys) x h k = both (and_first (test y) _ h) (more_in test ys x (and_second (test y) _ h) k)

pub none_hold : {A : Type 0} (test : A → Bool) {all : List A} → all ≡ [] → Each test all
none_hold test is = record { hold = ap (λ xs. all_of (map test xs)) is }

pub one_holds : {A : Type 0} (test : A → Bool) {all : List A} {x : A} → test x ≡ true → all ≡ x ∷ [] → Each test all
one_holds test k is = record { hold = ap (λ xs. all_of (map test xs)) is ∙ both k refl }

pub more_hold : {A : Type 0} (test : A → Bool) {all xs : List A} (x : A) → Each test xs → test x ≡ true → all ≡ xs ++ x ∷ [] → Each test all
more_hold test {xs = xs} x h k is = record { hold = ap (λ xs. all_of (map test xs)) is ∙ more_in test xs x h.hold k }

pub listed : {A : Type 0} (test : A → Bool) {xs : List A} → Each test xs → list_all test xs ≡ true
listed test {xs} h = all_is_all_of test xs ∙ h.hold

-- ---- filled lists

-- something stands in the list
pub record Filled {A : Type 0} (xs : List A) : Type 0 where
  pub filled : is_filled xs ≡ true

filled_in : {A : Type 0} (xs : List A) (x : A) → is_filled (xs ++ x ∷ []) ≡ true
filled_in [] x = refl
filled_in (y ∷ ys) x = refl

pub one_fills : {A : Type 0} {all : List A} {x : A} → all ≡ x ∷ [] → Filled all
one_fills is = record { filled = ap is_filled is }

pub more_fill : {A : Type 0} {all : List A} (xs : List A) (x : A) → all ≡ xs ++ x ∷ [] → Filled all
more_fill xs x is = record { filled = ap is_filled is ∙ filled_in xs x }

-- as many answers stand as there are members
pub answers : {A : Type 0} (test : A → Bool) {xs : List A} → Filled xs → is_filled (map test xs) ≡ true
answers test {xs} h = answered test xs ∙ h.filled
  where
    answered : {A : Type 0} (test : A → Bool) (xs : List A) → is_filled (map test xs) ≡ is_filled xs
    answered test [] = refl
    answered test (x ∷ xs) = refl
