-- Elements of parts of lists.
use Rattle.std.proofs.Common.{◌≡◌, ℕ, zero, suc, ◌+◌, ◌<◌, ◌≤◌, arith, Bool, true, List, [], ◌∷◌, ◌++◌, length, map}
use Rattle.std.proofs.Common.{take, drop, Some, sym, ap, ◌∙◌}
use Rattle.std.proofs.lemmas.Option.{same_Some, slice_get-map}
use Rattle.std.specs.Prelude.{option_map, slice_get}
use Rattle.std.specs.List.{list_all}
use Rattle.bl_tree.proofs.Basics.{and_first, and_second}

module _ {A : Type 0} (test : A → Bool) where
  pub all_at : (xs : List A) (j : ℕ) (x : A) → list_all test xs ≡ true → slice_get xs j ≡ Some x → test x ≡ true
  all_at [] j x all there = absurd (cc)
  all_at (y ∷ xs) zero x all there = ap test (sym (same_Some y x there)) ∙ and_first (test y) (list_all test xs) all
  all_at (y ∷ xs) (suc j) x all there = all_at xs j x (and_second (test y) (list_all test xs) all) there

  pub front_all : (n : ℕ) (xs : List A) (j : ℕ) (x : A) → list_all test (take n xs) ≡ true → slice_get xs j ≡ Some x → j < n → test x ≡ true
  front_all zero xs j x all there less = absurd (omega (arith, less))
  front_all (suc n) [] j x all there less = absurd (cc)
  front_all (suc n) (y ∷ xs) zero x all there less =
      ap test (sym (same_Some y x there)) ∙ and_first (test y) (list_all test (take n xs)) all
  front_all (suc n) (y ∷ xs) (suc j) x all there less =
      front_all n xs j x (and_second (test y) (list_all test (take n xs)) all) there (omega (arith, less))

  pub middle_all : (n m : ℕ) (xs : List A) (j : ℕ) (x : A) → list_all test (take m (drop n xs)) ≡ true → slice_get xs j ≡ Some x → n ≤ j →
      j < n + m → test x ≡ true
  middle_all zero m xs j x all there more less = front_all m xs j x all there (omega (arith, less))
  middle_all (suc n) m [] j x all there more less = absurd (cc)
  middle_all (suc n) m (y ∷ xs) zero x all there more less = absurd (omega (arith, more))
  middle_all (suc n) m (y ∷ xs) (suc j) x all there more less = middle_all n m xs j x all there (omega (arith, more)) (omega (arith, less))

  pub rest_all : (n : ℕ) (xs : List A) (j : ℕ) (x : A) → list_all test (drop n xs) ≡ true → slice_get xs j ≡ Some x → n ≤ j → test x ≡ true
  rest_all zero xs j x all there more = all_at xs j x all there
  rest_all (suc n) [] j x all there more = absurd (cc)
  rest_all (suc n) (y ∷ xs) zero x all there more = absurd (omega (arith, more))
  rest_all (suc n) (y ∷ xs) (suc j) x all there more = rest_all n xs j x all there (omega (arith, more))

-- what stands behind some values is made of the variables behind as many
pub made_behind : {A B : Type 0} (f : A → B) (values : List B) (n : ℕ) (vars : List A)
    (j : ℕ) (value : B) (var : A) → length values ≡ n → n ≤ j →
    slice_get vars j ≡ Some var → slice_get (values ++ map f (drop n vars)) j ≡ Some value → f var ≡ value
made_behind f [] zero vars j value var as_many more there at =
    same_Some (f var) value (sym (slice_get-map f vars j ∙ ap (option_map f) there) ∙ at)
made_behind f [] (suc n) vars j value var as_many more there at = absurd (omega (arith, as_many))
made_behind f (v ∷ values) zero vars j value var as_many more there at = absurd (omega (arith, as_many))
made_behind f (v ∷ values) (suc n) [] j value var as_many more there at = absurd (cc)
made_behind f (v ∷ values) (suc n) (y ∷ vars) zero value var as_many more there at = absurd (omega (arith, more))
made_behind f (v ∷ values) (suc n) (y ∷ vars) (suc j) value var as_many more there at =
    made_behind f values n vars j value var (omega (arith, as_many)) (omega (arith, more)) there at
