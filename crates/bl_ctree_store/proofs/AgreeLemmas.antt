-- Values that agree at some variables.
use Rattle.std.proofs.Common.{◌≡◌, ℕ, zero, suc, ◌+◌, List, [], ◌∷◌, ◌++◌, length, map, Some, refl, sym, ap, ◌∙◌, arith, length-set}
use Rattle.std.proofs.lemmas.List.FromFn.{length-map-range_with_len}
use Rattle.std.specs.Prelude.{slice_get, slice_set}
use Rattle.std.specs.List.{range_with_len}
use Rattle.bl_tree.specs.declared.value.Value.{Value}
use Rattle.bl_ctree_store.specs.Agree.{Agree, filled}

pub agree_first : (ks rest : List ℕ) (xs ys : List Value) → Agree (ks ++ rest) xs ys → Agree ks xs ys
agree_first [] rest xs ys same = tt
agree_first (k ∷ ks) rest xs ys same = (same.0, agree_first ks rest xs ys same.1)

pub agree_second : (ks rest : List ℕ) (xs ys : List Value) → Agree (ks ++ rest) xs ys → Agree rest xs ys
agree_second [] rest xs ys same = same
agree_second (k ∷ ks) rest xs ys same = agree_second ks rest xs ys same.1

-- a value that is set in both
pub set_both : (xs ys : List Value) (j k : ℕ) (value : Value) → slice_get xs j ≡ slice_get ys j → slice_get xs k ≡ slice_get ys k →
    slice_get (slice_set xs j value) k ≡ slice_get (slice_set ys j value) k
set_both [] [] j k value at same = refl
set_both [] (y ∷ ys) zero k value at same = absurd cc
set_both [] (y ∷ ys) (suc j) zero value at same = absurd cc
set_both [] (y ∷ ys) (suc j) (suc k) value at same = set_both [] ys j k value at same
set_both (x ∷ xs) [] zero k value at same = absurd cc
set_both (x ∷ xs) [] (suc j) zero value at same = absurd cc
set_both (x ∷ xs) [] (suc j) (suc k) value at same = set_both xs [] j k value at same
set_both (x ∷ xs) (y ∷ ys) zero zero value at same = refl
set_both (x ∷ xs) (y ∷ ys) zero (suc k) value at same = same
set_both (x ∷ xs) (y ∷ ys) (suc j) zero value at same = same
set_both (x ∷ xs) (y ∷ ys) (suc j) (suc k) value at same = set_both xs ys j k value at same

-- ---- values that are filled in

-- a value of the other list is set
given_here : (xs ys : List Value) (k : ℕ) (value : Value) → length xs ≡ length ys →
    ((y : Value) → slice_get ys k ≡ Some y → value ≡ y) → slice_get (slice_set xs k value) k ≡ slice_get ys k
given_here [] [] k value long is = refl
given_here [] (y ∷ ys) k value long is = absurd (omega arith)
given_here (x ∷ xs) [] k value long is = absurd (omega arith)
given_here (x ∷ xs) (y ∷ ys) zero value long is = ap Some (is y refl)
given_here (x ∷ xs) (y ∷ ys) (suc k) value long is = given_here xs ys k value (omega arith) is

given_elsewhere : (xs ys : List Value) (j k : ℕ) (value : Value) → length xs ≡ length ys →
    ((y : Value) → slice_get ys j ≡ Some y → value ≡ y) → slice_get xs k ≡ slice_get ys k
    → slice_get (slice_set xs j value) k ≡ slice_get ys k
given_elsewhere [] [] j k value long is same = refl
given_elsewhere [] (y ∷ ys) j k value long is same = absurd (omega arith)
given_elsewhere (x ∷ xs) [] j k value long is same = absurd (omega arith)
given_elsewhere (x ∷ xs) (y ∷ ys) zero zero value long is same = ap Some (is y refl)
given_elsewhere (x ∷ xs) (y ∷ ys) zero (suc k) value long is same = same
given_elsewhere (x ∷ xs) (y ∷ ys) (suc j) zero value long is same = same
given_elsewhere (x ∷ xs) (y ∷ ys) (suc j) (suc k) value long is same = given_elsewhere xs ys j k value (omega arith) is same

listed : (value : ℕ → Value) (first count k : ℕ) (y : Value) → slice_get (map value (range_with_len first count)) k ≡ Some y →
    value (first + k) ≡ y
listed value first zero k y is = absurd cc
listed value first (suc count) zero y is = (let same : first + 0 ≡ first = omega arith in ap value same) ∙ (let e : value first ≡ y = cc in e)
listed value first (suc count) (suc k) y is = (let same : first + suc k ≡ (first + 1) + k = omega arith in ap value same)
    ∙ listed value (first + 1) count k y is

module _ (value : ℕ → Value) (count : ℕ) where
  abbrev all : List Value
  all = map value (range_with_len 0 count)

  is_listed : (k : ℕ) (y : Value) → slice_get all k ≡ Some y → value k ≡ y
  is_listed k y is = (let same : k ≡ 0 + k = omega arith in ap value same) ∙ listed value 0 count k y is

  kept : (ks : List ℕ) (made : List Value) (k : ℕ) → length made ≡ length all → slice_get made k ≡ slice_get all k →
      slice_get (filled value ks made) k ≡ slice_get all k
  kept [] made k long same = same
  kept (j ∷ ks) made k long same =
      kept ks (slice_set made j (value j)) k (length-set made j (value j) ∙ long) (given_elsewhere made all j k (value j) long (is_listed j) same)

  all_filled : (ks : List ℕ) (made : List Value) → length made ≡ length all → Agree ks (filled value ks made) all
  all_filled [] made long = tt
  all_filled (k ∷ ks) made long =
      let next : length (slice_set made k (value k)) ≡ length all = length-set made k (value k) ∙ long in
      (kept ks (slice_set made k (value k)) k next (given_here made all k (value k) long (is_listed k)), all_filled ks (slice_set made k (value k)) next)

  -- those that are filled in are as all are
  pub filled_agree : (ks : List ℕ) (made : List Value) → length made ≡ count → Agree ks (filled value ks made) all
  filled_agree ks made long = all_filled ks made (long ∙ sym (length-map-range_with_len value 0 count))
