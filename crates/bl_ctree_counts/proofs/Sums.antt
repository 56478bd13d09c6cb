-- Sums of the first of some counts.
use Rattle.std.proofs.Common.{◌≡◌, ℕ, zero, suc, ◌+◌, ◌*◌, ◌<◌, ◌≤◌, List, [], ◌∷◌, length, take, get_or, Option, Some, ◌≢◌, refl, sym, ap, ◌∙◌, subst, arith}
use Rattle.std.proofs.lemmas.List.Sums.{sum_by-cons}
use Rattle.std.specs.Prelude.{IfSome, slice_get, slice_set}
use Rattle.std.specs.List.{sum}
use Rattle.bl_tree.proofs.Basics.{within_at}
use Rattle.bl_ctree_counts.specs.Counts.{HasSums}

pub sum_cons : (x : ℕ) (xs : List ℕ) → sum (x ∷ xs) ≡ x + sum xs
sum_cons x xs = sum_by-cons (λ n. n) x xs

-- a change of a later count
sum_before : (xs : List ℕ) (k n t : ℕ) → t ≤ k → sum (take t (slice_set xs k n)) ≡ sum (take t xs)
sum_before [] k n t before = refl
sum_before (x ∷ xs) zero n zero before = refl
sum_before (x ∷ xs) (suc k) n zero before = refl
sum_before (x ∷ xs) zero n (suc t) before = absurd (omega arith)
sum_before (x ∷ xs) (suc k) n (suc t) before =
    sum_cons x (take t (slice_set xs k n)) ∙ ap (λ n. x + n) (sum_before xs k n t (omega arith)) ∙ sym (sum_cons x (take t xs))

-- a change of one of them
sum_changed : (xs : List ℕ) (k n t : ℕ) → k < t → k < length xs → sum (take t (slice_set xs k n)) + get_or xs k 0 ≡ sum (take t xs) + n
sum_changed [] k n t behind within = absurd (omega arith)
sum_changed (x ∷ xs) k n zero behind within = absurd (omega arith)
sum_changed (x ∷ xs) zero n (suc t) behind within = omega (arith, sum_cons n (take t xs), sum_cons x (take t xs))
sum_changed (x ∷ xs) (suc k) n (suc t) behind within =
    omega (arith, sum_changed xs k n t (omega arith) (omega arith), sum_cons x (take t (slice_set xs k n)), sum_cons x (take t xs))

many_set : {A : Type 0} (xs : List A) (k : ℕ) (x : A) → length (slice_set xs k x) ≡ length xs
many_set [] k x = refl
many_set (y ∷ xs) zero x = refl
many_set (y ∷ xs) (suc k) x = ap suc (many_set xs k x)

pub set_here : {A : Type 0} (xs : List A) (k : ℕ) (x y : A) → slice_get (slice_set xs k x) k ≡ Some y → x ≡ y
set_here [] k x y is = absurd cc
set_here (z ∷ xs) zero x y is = cc
set_here (z ∷ xs) (suc k) x y is = set_here xs k x y is

set_apart : {A : Type 0} (xs : List A) (j k : ℕ) (x : A) → j ≢ k → slice_get (slice_set xs k x) j ≡ slice_get xs j
set_apart [] j k x apart = refl
set_apart (z ∷ xs) zero zero x apart = absurd (apart refl)
set_apart (z ∷ xs) zero (suc k) x apart = refl
set_apart (z ∷ xs) (suc j) zero x apart = refl
set_apart (z ∷ xs) (suc j) (suc k) x apart = set_apart xs j k x (λ same. apart (ap suc same))

data Order (j b : ℕ) : Type 0 where
  less : j < b → Order j b
  same : j ≡ b → Order j b
  more : b < j → Order j b

order : (j b : ℕ) → Order j b
order zero zero = same refl
order zero (suc b) = less (omega arith)
order (suc j) zero = more (omega arith)
order (suc j) (suc b) = next (order j b)
  where
    next : {j b : ℕ} → Order j b → Order (suc j) (suc b)
    next (less w) = less (omega arith)
    next (same e) = same (ap suc e)
    next (more w) = more (omega arith)

-- one count of the block with number b changes
module _ (blocks : List (Option ℕ)) (counts : List ℕ) (has : HasSums blocks counts) (k n b : ℕ) (low : 64 * b ≤ k) (high : k < 64 * b + 64)
    (within : k < length counts) where
  abbrev new : List ℕ
  new = slice_set counts k n

  abbrev Sums : ℕ → ℕ → Type 0
  Sums j total = sum (take (64 * j + 64) new) ≡ sum (take (64 * j) new) + total

  sums_less : (j total : ℕ) → j < b → slice_get blocks j ≡ Some (Some total) → Sums j total
  sums_less j total w is =
      sum_before counts k n (64 * j + 64) (omega arith) ∙ has.sums j total is
      ∙ ap (λ m. m + total) (sym (sum_before counts k n (64 * j) (omega arith)))

  sums_more : (j total : ℕ) → b < j → slice_get blocks j ≡ Some (Some total) → Sums j total
  sums_more j total w is =
      omega (arith, has.sums j total is, sum_changed counts k n (64 * j + 64) (omega arith) within, sum_changed counts k n (64 * j) (omega arith) within)

  -- its sum is known anew
  pub sums_set : (s : Option ℕ) → IfSome s (Sums b) → HasSums (slice_set blocks b s) new
  sums_set s here = record {
    whole = omega (arith, has.whole, many_set blocks b s, many_set counts k n);
    sums = λ j total is. by j total (order j b) is;
  }
    where
      by : (j total : ℕ) → Order j b → slice_get (slice_set blocks b s) j ≡ Some (Some total) → Sums j total
      by j total (less w) is = sums_less j total w (sym (set_apart blocks j b s (λ e. absurd (omega (arith, w, e)))) ∙ is)
      by j total (more w) is = sums_more j total w (sym (set_apart blocks j b s (λ e. absurd (omega (arith, w, e)))) ∙ is)
      by j total (same e) is =
          let known : s ≡ Some total = set_here blocks b s (Some total) (ap (slice_get (slice_set blocks b s)) (sym e) ∙ is) in
          subst (λ j. Sums j total) (sym e) (subst (λ s. IfSome s (Sums b)) known here)

  -- it isn't whole
  pub sums_past : length blocks ≤ b → HasSums blocks new
  sums_past past = record {
    whole = omega (arith, has.whole, many_set counts k n);
    sums = λ j total is. sums_less j total (omega (arith, within_at blocks j (Some total) is)) is;
  }
