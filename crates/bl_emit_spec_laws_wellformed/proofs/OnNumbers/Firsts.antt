-- The nodes that stand first in their blocks are some of all nodes, each once.
use Rattle.std.proofs.Common.{◌≡◌, ℕ, zero, suc, ◌+◌, ◌≤◌, Bool, true, List, [], ◌∷◌, ◌++◌}
use Rattle.std.proofs.Common.{length, take, refl, sym, ap, ◌∙◌, arith}
use Rattle.std.proofs.Math.Seq.{take-length}
use Rattle.std.proofs.lemmas.List.Folds.{list_all-append}
use Rattle.std.proofs.lemmas.List.Sorted.{sum_by-IsPermutation}
use Rattle.std.proofs.lemmas.List.Sums.{sum_by-append, sum_by-cons, sum_by_push}
use Rattle.std.specs.List.{list_all}
use Rattle.std.specs.Prelude.{IsPermutation, option_to_list, slice_get, sum_by}
use Rattle.std.proofs.lemmas.Bool.{and_from}
use Rattle.bl_tree.proofs.Basics.{and_first, and_second}
use Rattle.bl_tree.specs.Reduce.{joined}
use Rattle.bl_machine.specs.Blocks.{up_to}
use Rattle.bl_emit_spec.specs.Activities.{first_positions, picked}

-- a sum over the first positions of blocks is at most that over all positions in them
firsts_less : (f : ℕ → ℕ) (blocks : List (List ℕ)) → sum_by f (first_positions blocks) ≤ sum_by f (joined blocks)
firsts_less f [] = omega arith
firsts_less f ([] ∷ rest) = firsts_less f rest
firsts_less f ((k ∷ block) ∷ rest) =
    let less = firsts_less f rest in
    let one = sum_by-cons f k (first_positions rest) in
    let whole = sum_by-cons f k (block ++ joined rest) in
    let both = sum_by-append f block (joined rest) in
    omega (arith, less, one, whole, both)

take_next : {X : Type 0} (xs : List X) (n : ℕ) → take (suc n) xs ≡ take n xs ++ option_to_list (slice_get xs n)
take_next [] zero = refl
take_next [] (suc n) = refl
take_next (x ∷ xs) zero = refl
take_next (x ∷ xs) (suc n) = ap (λ rest. x ∷ rest) (take_next xs n)

module _ {X : Type 0} (w : X → ℕ) (xs : List X) where
  -- the weight of the element at a position, if there is one
  abbrev weight : ℕ → ℕ
  weight k = sum_by w (option_to_list (slice_get xs k))

  picked_sum : (ks : List ℕ) → sum_by w (picked xs ks) ≡ sum_by weight ks
  picked_sum [] = refl
  picked_sum (k ∷ ks) =
      sum_by-append w (option_to_list (slice_get xs k)) (picked xs ks) ∙ ap (λ n. weight k + n) (picked_sum ks) ∙ sym (sum_by-cons weight k ks)

  front_sum : (n : ℕ) → sum_by weight (up_to n) ≡ sum_by w (take n xs)
  front_sum zero = refl
  front_sum (suc n) =
      sum_by_push weight (up_to n) n ∙ ap (λ m. m + weight n) (front_sum n)
      ∙ sym (ap (sum_by w) (take_next xs n) ∙ sum_by-append w (take n xs) (option_to_list (slice_get xs n)))

  -- what stands first in blocks weighs no more than all that stands in them
  pub picked-less : (blocks : List (List ℕ)) → IsPermutation (up_to (length xs)) (joined blocks) → sum_by w (picked xs (first_positions blocks)) ≤ sum_by w xs
  picked-less blocks each =
      let some = picked_sum (first_positions blocks) in
      let less = firsts_less weight blocks in
      let same = sum_by-IsPermutation weight (up_to (length xs)) (joined blocks) each in
      let front : sum_by weight (up_to (length xs)) ≡ sum_by w xs = front_sum (length xs) ∙ ap (sum_by w) (take-length xs) in
      omega (arith, some, less, same, front)

-- ---- what all have, those that are picked have

one_picked : {X : Type 0} (p : X → Bool) (xs : List X) (k : ℕ) → list_all p xs ≡ true → list_all p (option_to_list (slice_get xs k)) ≡ true
one_picked p [] k all = refl
one_picked p (x ∷ xs) zero all = and_from (p x) true (and_first (p x) (list_all p xs) all) refl
one_picked p (x ∷ xs) (suc k) all = one_picked p xs k (and_second (p x) (list_all p xs) all)

pub picked-all : {X : Type 0} (p : X → Bool) (xs : List X) (ks : List ℕ) → list_all p xs ≡ true → list_all p (picked xs ks) ≡ true
picked-all p xs [] all = refl
picked-all p xs (k ∷ ks) all =
    list_all-append p (option_to_list (slice_get xs k)) (picked xs ks)
    ∙ and_from (list_all p (option_to_list (slice_get xs k))) (list_all p (picked xs ks)) (one_picked p xs k all) (picked-all p xs ks all)
