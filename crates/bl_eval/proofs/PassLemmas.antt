-- Lists of values against lists of what they are tested by, one for one.
use Rattle.std.proofs.Common.{◌≡◌, ℕ, suc, zero, ◌<◌, Bool, true, ◌&&◌, List, [], ◌∷◌, ◌++◌, length, map, take, drop, replicate, arith, Option, Some}
use Rattle.std.proofs.Common.{refl, sym, ap, ◌∙◌}
use Rattle.std.proofs.lemmas.Option.{same_Some}
use Rattle.std.specs.Prelude.{slice_get, slice_set}
use Rattle.std.specs.List.{list_all}
use Rattle.std.proofs.lemmas.Bool.{and_from}
use Rattle.bl_tree.proofs.Basics.{and_first, and_second}
use Rattle.bl_tree.specs.declared.value.Value.{Value}
use Rattle.bl_eval.specs.Values.{pass}

-- ---- lists

pub get_seam : {A : Type 0} (xs : List A) (y : A) (j : ℕ) → j ≡ length xs → slice_get (xs ++ y ∷ []) j ≡ Some y
get_seam [] y zero is = refl
get_seam [] y (suc j) is = absurd (omega arith)
get_seam (x ∷ xs) y zero is = absurd (omega arith)
get_seam (x ∷ xs) y (suc j) is = get_seam xs y j (omega arith)

pub take_less : {A : Type 0} (xs : List A) (s k : ℕ) → k < s → take k (take s xs) ≡ take k xs
take_less xs zero k lt = absurd (omega arith)
take_less xs (suc s) zero lt = refl
take_less [] (suc s) (suc k) lt = refl
take_less (x ∷ xs) (suc s) (suc k) lt = let less : k < s = omega arith in ap (λ rest. x ∷ rest) (take_less xs s k less)

-- ---- tests one for one

-- an element that is there with what it is tested by
abbrev pub Found : {X : Type 0} → (X → Value → Bool) → X → Option Value → Type 0
Found test x found = (value : Value) × (found ≡ Some value) × (test x value ≡ true)

module _ {X : Type 0} (test : X → Value → Bool) where
  pub pass_at : (xs : List X) (values : List Value) (k : ℕ) (x : X) → pass (map test xs) values ≡ true → slice_get xs k ≡ Some x →
      Found test x (slice_get values k)
  pass_at [] values k x all there = absurd (cc)
  pass_at (y ∷ xs) [] k x all there = absurd (cc)
  pass_at (y ∷ xs) (v ∷ values) zero x all there =
      (v, refl, ap (λ x. test x v) (sym (same_Some y x there)) ∙ and_first (test y v) (pass (map test xs) values) all)
  pass_at (y ∷ xs) (v ∷ values) (suc k) x all there = pass_at xs values k x (and_second (test y v) (pass (map test xs) values) all) there

  pub pass_set : (xs : List X) (values : List Value) (k : ℕ) (x : X) (new : Value) → pass (map test xs) values ≡ true →
      slice_get xs k ≡ Some x → test x new ≡ true
      → pass (map test xs) (slice_set values k new) ≡ true
  pass_set [] values k x new all there one = absurd (cc)
  pass_set (y ∷ xs) [] k x new all there one = absurd (cc)
  pass_set (y ∷ xs) (v ∷ values) zero x new all there one =
      and_from (test y new) (pass (map test xs) values) (ap (λ x. test x new) (same_Some y x there) ∙ one) (and_second (test y v) (pass (map test xs) values) all)
  pass_set (y ∷ xs) (v ∷ values) (suc k) x new all there one =
      and_from (test y v) (pass (map test xs) (slice_set values k new)) (and_first (test y v) (pass (map test xs) values) all)
      (pass_set xs values k x new (and_second (test y v) (pass (map test xs) values) all) there one)

  pub pass_take : (n : ℕ) (xs : List X) (values : List Value) → pass (map test xs) values ≡ true → pass (map test (take n xs)) (take n values) ≡ true
  pass_take zero xs values all = refl
  pass_take (suc n) [] [] all = refl
  pass_take (suc n) [] (v ∷ values) all = absurd (cc)
  pass_take (suc n) (x ∷ xs) [] all = absurd (cc)
  pass_take (suc n) (x ∷ xs) (v ∷ values) all =
      and_from (test x v) (pass (map test (take n xs)) (take n values)) (and_first (test x v) (pass (map test xs) values) all)
      (pass_take n xs values (and_second (test x v) (pass (map test xs) values) all))

  pub pass_drop : (n : ℕ) (xs : List X) (values : List Value) → pass (map test xs) values ≡ true → pass (map test (drop n xs)) (drop n values) ≡ true
  pass_drop zero xs values all = all
  pass_drop (suc n) [] [] all = refl
  pass_drop (suc n) [] (v ∷ values) all = absurd (cc)
  pass_drop (suc n) (x ∷ xs) [] all = absurd (cc)
  pass_drop (suc n) (x ∷ xs) (v ∷ values) all = pass_drop n xs values (and_second (test x v) (pass (map test xs) values) all)

  pub pass_append : (xs ys : List X) (values others : List Value) → pass (map test xs) values ≡ true → pass (map test ys) others ≡ true
      → pass (map test (xs ++ ys)) (values ++ others) ≡ true
  pass_append [] ys [] others one other = other
  pass_append [] ys (v ∷ values) others one other = absurd (cc)
  pass_append (x ∷ xs) ys [] others one other = absurd (cc)
  pass_append (x ∷ xs) ys (v ∷ values) others one other =
      and_from (test x v) (pass (map test (xs ++ ys)) (values ++ others)) (and_first (test x v) (pass (map test xs) values) one)
      (pass_append xs ys values others (and_second (test x v) (pass (map test xs) values) one) other)

  -- what is made of each of them passes where it does one by one
  pub pass_each : (make : X → Value) (good : X → Bool) → ((x : X) → good x ≡ true → test x (make x) ≡ true) → (xs : List X)
      → list_all good xs ≡ true
      → pass (map test xs) (map make xs) ≡ true
  pass_each make good one [] all = refl
  pass_each make good one (x ∷ xs) all =
      and_from (test x (make x)) (pass (map test xs) (map make xs)) (one x (and_first (good x) (list_all good xs) all))
      (pass_each make good one xs (and_second (good x) (list_all good xs) all))

-- ---- one test for all

module _ {X : Type 0} (test : X → Bool) where
  pub all_at : (xs : List X) (k : ℕ) (x : X) → list_all test xs ≡ true → slice_get xs k ≡ Some x → test x ≡ true
  all_at [] k x all there = absurd (cc)
  all_at (y ∷ xs) zero x all there = ap test (sym (same_Some y x there)) ∙ and_first (test y) (list_all test xs) all
  all_at (y ∷ xs) (suc k) x all there = all_at xs k x (and_second (test y) (list_all test xs) all) there

  pub all_set : (xs : List X) (k : ℕ) (x : X) → list_all test xs ≡ true → test x ≡ true → list_all test (slice_set xs k x) ≡ true
  all_set [] k x all one = refl
  all_set (y ∷ xs) zero x all one = and_from (test x) (list_all test xs) one (and_second (test y) (list_all test xs) all)
  all_set (y ∷ xs) (suc k) x all one =
      and_from (test y) (list_all test (slice_set xs k x)) (and_first (test y) (list_all test xs) all)
      (all_set xs k x (and_second (test y) (list_all test xs) all) one)

  pub all_replicate : (n : ℕ) (x : X) → test x ≡ true → list_all test (replicate n x) ≡ true
  all_replicate zero x one = refl
  all_replicate (suc n) x one = and_from (test x) (list_all test (replicate n x)) one (all_replicate n x one)

  pub all_drop : (n : ℕ) (xs : List X) → list_all test xs ≡ true → list_all test (drop n xs) ≡ true
  all_drop zero xs all = all
  all_drop (suc n) [] all = refl
  all_drop (suc n) (x ∷ xs) all = all_drop n xs (and_second (test x) (list_all test xs) all)
