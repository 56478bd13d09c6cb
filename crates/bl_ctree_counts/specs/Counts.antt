-- Counts one after another, and sums of blocks of them.
use Rattle.std.specs.Prelude.{◌≡◌, ℕ, ◌+◌, ◌*◌, ◌<◌, ◌≤◌, List, length, take, Option, Some, None, IfSome, get_or, slice_get}
use Rattle.std.specs.List.{sum}
use Rattle.bl_ctree_counts.specs.declared.InCount.{InCount}

-- the known sums are those of blocks of 64 counts, each of which is whole
pub record HasSums (blocks : List (Option ℕ)) (counts : List ℕ) : Type 0 where
  pub whole : 64 * length blocks ≤ length counts
  pub sums : (b total : ℕ) → slice_get blocks b ≡ Some (Some total) →
      sum (take (64 * b + 64) counts) ≡ sum (take (64 * b) counts) + total

-- the known sum is that of all counts
abbrev pub HasTotal : Option ℕ → List ℕ → Type 0
HasTotal total counts = IfSome total (λ n. n ≡ sum counts)

-- the count in which a number falls, with the sum before it; none beyond all counts
abbrev pub Falls : List ℕ → ℕ → Option InCount → Type 0
Falls counts n (Some found) = (n ≡ sum (take found.at counts) + found.rest) × (found.rest < get_or counts found.at 0)
Falls counts n None = sum counts ≤ n
