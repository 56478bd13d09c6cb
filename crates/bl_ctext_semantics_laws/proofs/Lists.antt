-- Tests of each element of a list.
use Rattle.std.proofs.Common.{◌≡◌, ℕ, zero, suc, ◌<◌, Bool, true, false, not, ◌&&◌, List, [], ◌∷◌, ◌++◌, map, Option, Some, None, refl, ap, sym}
use Rattle.std.proofs.Common.{subst, ◌∙◌, arith}
use Rattle.std.specs.Prelude.{flat_map, is_some, is_none, bytes_eq, nat_lt, ◌==◌, if◌then◌else◌}
use Rattle.std.specs.List.{list_all}
use Rattle.std.specs.Option.{option_or}
use Rattle.std.proofs.lemmas.Grind.{common_steps}
use Rattle.std.proofs.lemmas.Slice.Eq.{bytes_eq-Decides}
use Rattle.std.proofs.lemmas.Bool.{and_from, not-true}
use Rattle.bl_tree.proofs.Basics.{and_first, and_regroup, and_second}
use Rattle.bl_tree.specs.declared.text.Text.{Text}
use Rattle.bl_ctext_semantics.specs.Cells.{below}
use Rattle.bl_ctext_semantics.specs.Faults.{all_distinct}
use Rattle.bl_ctext_semantics.specs.Tables.{Table, found, with_entry}

pub all-append : {A : Type 0} (p : A → Bool) (xs ys : List A) → list_all p (xs ++ ys) ≡ (list_all p xs && list_all p ys)
all-append p [] ys = refl
all-append p (x ∷ xs) ys = ap (λ b. p x && b) (all-append p xs ys) ∙ and_regroup (p x) (list_all p xs) (list_all p ys)

pub all-map : {A B : Type 0} (p : B → Bool) (f : A → B) (xs : List A) → list_all p (map f xs) ≡ list_all (λ x. p (f x)) xs
all-map p f [] = refl
all-map p f (x ∷ xs) = ap (λ b. p (f x) && b) (all-map p f xs)

pub all-flat : {A B : Type 0} (p : B → Bool) (f : A → List B) (xs : List A) → list_all p (flat_map f xs) ≡ list_all (λ x. list_all p (f x)) xs
all-flat p f [] = refl
all-flat p f (x ∷ xs) = all-append p (f x) (flat_map f xs) ∙ ap (λ b. list_all p (f x) && b) (all-flat p f xs)

pub all-same : {A : Type 0} (p q : A → Bool) → ((x : A) → p x ≡ q x) → (xs : List A) → list_all p xs ≡ list_all q xs
all-same p q h [] = refl
all-same p q h (x ∷ xs) = ap (λ b. b && list_all p xs) (h x) ∙ ap (λ b. q x && b) (all-same p q h xs)

pub all-true : {A : Type 0} (p : A → Bool) → ((x : A) → p x ≡ true) → (xs : List A) → list_all p xs ≡ true
all-true p h [] = refl
all-true p h (x ∷ xs) = and_from (p x) (list_all p xs) (h x) (all-true p h xs)

-- ---- the numbers below one

at-or-before : (p : ℕ → Bool) (n k : ℕ) (b : Bool) → nat_lt k n ≡ b → nat_lt k (suc n) ≡ true → (nat_lt k n ≡ true → p k ≡ true) →
    p n ≡ true → p k ≡ true
at-or-before p n k true is within earlier last = earlier is
at-or-before p n k false is within earlier last = let same : k ≡ n = grind (arith, common_steps) in ap p same ∙ last

pub all-below-at : (p : ℕ → Bool) (n k : ℕ) → nat_lt k n ≡ true → list_all p (below n) ≡ true → p k ≡ true
all-below-at p zero k within all = absurd (grind (arith, common_steps))
all-below-at p (suc n) k within all =
    let both : (list_all p (below n) && (p n && true)) ≡ true = sym (all-append p (below n) (n ∷ [])) ∙ all in
    at-or-before p n k (nat_lt k n) refl within (λ is. all-below-at p n k is (and_first (list_all p (below n)) (p n && true) both))
    (and_first (p n) true (and_second (list_all p (below n)) (p n && true) both))

other-or-same : (p q : ℕ → Bool) (k n : ℕ) (b : Bool) → (k == n) ≡ b → q k ≡ true → ((k == n) ≡ false → q n ≡ true) → q n ≡ true
other-or-same p q k n true is here there = let same : k ≡ n = grind (arith, common_steps) in ap q (sym same) ∙ here
other-or-same p q k n false is here there = there is

-- the test holds of one number, and of each other one for which another test does
pub all-below-but : (p q : ℕ → Bool) (k : ℕ) → q k ≡ true → ((j : ℕ) → (k == j) ≡ false → p j ≡ true → q j ≡ true) → (n : ℕ) →
    list_all p (below n) ≡ true →
    list_all q (below n) ≡ true
all-below-but p q k here there zero all = refl
all-below-but p q k here there (suc n) all =
    let both : (list_all p (below n) && (p n && true)) ≡ true = sym (all-append p (below n) (n ∷ [])) ∙ all in
    all-append q (below n) (n ∷ [])
    ∙ and_from (list_all q (below n)) (q n && true) (all-below-but p q k here there n (and_first _ _ both))
    (and_from (q n) true
    (other-or-same p q k n (k == n) refl here (λ is. there n is (and_first (p n) true (and_second (list_all p (below n)) (p n && true) both)))) refl)

-- ---- what is found by name

kept : (o : Option (Unit {0})) (b : Bool) → is_some o ≡ true → is_some (option_or o (if b then Some tt else None)) ≡ true
kept (Some x) b h = refl
kept None b h = cc

added : (o : Option (Unit {0})) (b : Bool) → b ≡ true → is_some (option_or o (if b then Some tt else None)) ≡ true
added (Some x) b h = refl
added None true h = refl
added None false h = cc

not-both : (o : Option (Unit {0})) → is_some o ≡ true → is_none o ≡ true → ⊥
not-both (Some u) h k = let x : false ≡ true = k in cc
not-both None h k = let x : false ≡ true = h in cc

differs : (names : Table (Unit {0})) (other name : Text) → is_some (names name) ≡ true → is_none (names other) ≡ true → (b : Bool) →
    bytes_eq other name ≡ b →
    not b ≡ true
differs names other name there absent false is = refl
differs names other name there absent true is =
    absurd (not-both (names other) (subst (λ n. is_some (names n) ≡ true) (sym ((bytes_eq-Decides other name).0 is)) there) absent)

module _ {A : Type 0} (name_of : A → Text) where
  abbrev named : List A → List (Text × A)
  named xs = map (λ x. (name_of x, x)) xs

  some_of : (a b : A) → Some a ≡ Some b → a ≡ b
  some_of a b h = cc

  now-or-later : (p : A → Bool) (x y : A) (rest : Option A) (b : Bool) → (if b then Some x else rest) ≡ Some y → p x ≡ true →
      (rest ≡ Some y → p y ≡ true) →
      p y ≡ true
  now-or-later p x y rest true is here later = subst (λ z. p z ≡ true) (some_of x y is) here
  now-or-later p x y rest false is here later = later is

  pub all-found : (p : A → Bool) (name : Text) (y : A) (xs : List A) → found name (named xs) ≡ Some y → list_all p xs ≡ true → p y ≡ true
  all-found p name y [] is all = cc
  all-found p name y (x ∷ xs) is all =
      now-or-later p x y (found name (named xs)) (bytes_eq (name_of x) name) is (and_first (p x) (list_all p xs) all)
      (λ later. all-found p name y xs later (and_second (p x) (list_all p xs) all))

  kept-name : (names : Table (Unit {0})) (other name : Text) → is_some (names name) ≡ true → is_some (with_entry names other tt name) ≡ true
  kept-name names other name h = kept (names name) (bytes_eq other name) h

  added-name : (names : Table (Unit {0})) (name : Text) → is_some (with_entry names name tt name) ≡ true
  added-name names name = added (names name) (bytes_eq name name) ((bytes_eq-Decides name name).1 refl)

  -- a name that stands among others isn't one of distinct names after them
  other-names : (names : Table (Unit {0})) (name : Text) → is_some (names name) ≡ true → (xs : List A) →
      all_distinct names (map name_of xs) ≡ true →
      list_all (λ x. not (bytes_eq (name_of x) name)) xs ≡ true
  other-names names name there [] apart = refl
  other-names names name there (x ∷ xs) apart =
      and_from (not (bytes_eq (name_of x) name)) (list_all (λ y. not (bytes_eq (name_of y) name)) xs)
      (differs names (name_of x) name there (and_first (is_none (names (name_of x))) _ apart) (bytes_eq (name_of x) name) refl)
      (other-names (with_entry names (name_of x) tt) name (kept-name names (name_of x) name there) xs (and_second (is_none (names (name_of x))) _ apart))

  all-others : (p q : A → Bool) (name : Text) → ((x : A) → bytes_eq (name_of x) name ≡ false → p x ≡ true → q x ≡ true) → (xs : List A) →
      list_all (λ x. not (bytes_eq (name_of x) name)) xs ≡ true → list_all p xs ≡ true → list_all q xs ≡ true
  all-others p q name there [] apart all = refl
  all-others p q name there (x ∷ xs) apart all =
      and_from (q x) (list_all q xs)
      (there x (not-true (bytes_eq (name_of x) name) (and_first (not (bytes_eq (name_of x) name)) _ apart)) (and_first (p x) _ all))
      (all-others p q name there xs (and_second (not (bytes_eq (name_of x) name)) _ apart) (and_second (p x) _ all))

  found-or-other : (p q : A → Bool) (name : Text) (y : A) → q y ≡ true →
      ((x : A) → bytes_eq (name_of x) name ≡ false → p x ≡ true → q x ≡ true) →
      (names : Table (Unit {0})) (x : A) (xs : List A) → all_distinct (with_entry names (name_of x) tt) (map name_of xs) ≡ true →
      list_all p (x ∷ xs) ≡ true →
      (b : Bool) → bytes_eq (name_of x) name ≡ b → (if b then Some x else found name (named xs)) ≡ Some y →
      (found name (named xs) ≡ Some y → list_all q xs ≡ true) → list_all q (x ∷ xs) ≡ true
  found-or-other p q name y here there names x xs apart all true same is later =
      let among : is_some (with_entry names (name_of x) tt name) ≡ true =
      subst (λ n. is_some (with_entry names (name_of x) tt n) ≡ true) ((bytes_eq-Decides (name_of x) name).0 same) (added-name names (name_of x)) in
      and_from (q x) (list_all q xs) (subst (λ z. q z ≡ true) (sym (some_of x y is)) here)
      (all-others p q name there xs (other-names (with_entry names (name_of x) tt) name among xs apart) (and_second (p x) _ all))
  found-or-other p q name y here there names x xs apart all false same is later =
      and_from (q x) (list_all q xs) (there x same (and_first (p x) _ all)) (later is)

  -- the test holds of the one that is found, and of each other one for which another test does
  pub all-found-but : (p q : A → Bool) (name : Text) (y : A) → q y ≡ true →
      ((x : A) → bytes_eq (name_of x) name ≡ false → p x ≡ true → q x ≡ true) →
      (names : Table (Unit {0})) (xs : List A) → all_distinct names (map name_of xs) ≡ true → found name (named xs) ≡ Some y →
      list_all p xs ≡ true →
      list_all q xs ≡ true
  all-found-but p q name y here there names [] apart is all = refl
  all-found-but p q name y here there names (x ∷ xs) apart is all =
      found-or-other p q name y here there names x xs (and_second (is_none (names (name_of x))) _ apart) all (bytes_eq (name_of x) name) refl is
      (λ later. all-found-but p q name y here there (with_entry names (name_of x) tt) xs (and_second (is_none (names (name_of x))) _ apart) later
      (and_second (p x) _ all))
