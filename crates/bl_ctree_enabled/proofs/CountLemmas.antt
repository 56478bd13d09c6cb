-- How many points of a listing may act, and which is the n-th.
use Rattle.std.proofs.Common.{◌≡◌, ℕ, zero, suc, ◌+◌, ◌<◌, ◌≤◌, List, [], ◌∷◌, map, take, length, get_or, Some, None, refl, sym, ap, ◌∙◌, arith}
use Rattle.std.specs.Prelude.{Result, Ok, Err, IfOk, slice_get}
use Rattle.std.specs.List.{sum}
use Rattle.std.proofs.lemmas.List.{length-append}
use Rattle.bl_tree.proofs.Basics.{get_front}
use Rattle.bl_tree.specs.declared.memory.NoMemory.{NoMemory}
use Rattle.bl_ctree_counts.specs.declared.InCount.{InCount}
use Rattle.bl_ctree_counts.specs.Counts.{Falls}
use Rattle.bl_ctree.specs.Store.{Location}
use Rattle.bl_ctree_enabled.specs.Listing.{EnabledView, IsRight, all_flagged, enabled, flagged, flags_from, flags_of, list_at, trues}
use Rattle.bl_ctree_enabled.specs.Spots.{Spot, is_free_of}
use Rattle.bl_ctree_enabled.proofs.ListLemmas.{flagged_count, get_behind}
use Rattle.bl_ctree_counts.proofs.Sums.{sum_cons}

nothing_past : {A : Type 0} (xs : List A) (n : ℕ) → length xs ≤ n → None ≡ slice_get xs n
nothing_past [] n past = refl
nothing_past (x ∷ xs) zero past = absurd (omega arith)
nothing_past (x ∷ xs) (suc n) past = nothing_past xs n (omega arith)

module _ (hs : List (List Location)) where
  abbrev counts_from : ℕ → List (List Spot) → List ℕ
  counts_from j ms = map trues (flags_from hs j ms)

  abbrev free_from : ℕ → List (List Spot) → List Spot
  free_from j ms = all_flagged (flags_from hs j ms) ms

  -- as many as are counted
  many_from : (j : ℕ) (ms : List (List Spot)) → sum (counts_from j ms) ≡ length (free_from j ms)
  many_from j [] = refl
  many_from j (m ∷ ms) =
      let f = flags_of hs j m in
      omega (
        arith,
        sum_cons (trues f) (counts_from (suc j) ms),
        many_from (suc j) ms,
        length-append (flagged f m) (free_from (suc j) ms),
        flagged_count (is_free_of hs j) m,
      )

  -- one of them falls in the count of its branch
  one_from : (j : ℕ) (ms : List (List Spot)) (k rest n : ℕ) → n ≡ sum (take k (counts_from j ms)) + rest → rest < get_or (counts_from j ms) k 0
      → slice_get (flagged (list_at (flags_from hs j ms) k) (list_at ms k)) rest ≡ slice_get (free_from j ms) n
  one_from j [] zero rest n is within = absurd (omega arith)
  one_from j [] (suc k) rest n is within = absurd (omega arith)
  one_from j (m ∷ ms) zero rest n is within =
      let f = flags_of hs j m in
      let same : n ≡ rest = omega (arith, is) in
      sym (ap (slice_get (free_from j (m ∷ ms))) same
      ∙ get_front (flagged f m) (free_from (suc j) ms) rest (omega (arith, within, flagged_count (is_free_of hs j) m)))
  one_from j (m ∷ ms) (suc k) rest n is within =
      let f = flags_of hs j m in
      let next = sum (take k (counts_from (suc j) ms)) + rest in
      let more : n ≡ length (flagged f m) + next =
      omega (arith, is, sum_cons (trues f) (take k (counts_from (suc j) ms)), flagged_count (is_free_of hs j) m) in
      one_from (suc j) ms k rest next refl within ∙ sym (get_behind (flagged f m) (free_from (suc j) ms) n next more)

-- ---- of a listing that is right

module _ (l : EnabledView) (right : IsRight l) where
  as_counts : l.counts ≡ map trues (flags_from l.homes 0 l.spots)
  as_counts = right.counts ∙ ap (map trues) right.free

  as_enabled : enabled l ≡ all_flagged (flags_from l.homes 0 l.spots) l.spots
  as_enabled = ap (λ free. all_flagged free l.spots) right.free

  pub many_enabled : sum l.counts ≡ length (enabled l)
  many_enabled = ap sum as_counts ∙ many_from l.homes 0 l.spots ∙ ap length (sym as_enabled)

  pub counted : (r : Result ℕ NoMemory) → IfOk r (λ n. n ≡ sum l.counts) → IfOk r (λ n. n ≡ length (enabled l))
  counted (Ok n) is = is ∙ many_enabled
  counted (Err e) is = is

  pub chosen_none : (n : ℕ) → Falls l.counts n None → None ≡ slice_get (enabled l) n
  chosen_none n past = nothing_past (enabled l) n (omega (arith, past, many_enabled))

  pub chosen_some : (n : ℕ) (found : InCount) → Falls l.counts n (Some found)
      → slice_get (flagged (list_at l.free found.at) (list_at l.spots found.at)) found.rest ≡ slice_get (enabled l) n
  chosen_some n found falls =
      ap (λ free. slice_get (flagged (list_at free found.at) (list_at l.spots found.at)) found.rest) right.free
      ∙ one_from l.homes 0 l.spots found.at found.rest n (falls.0 ∙ ap (λ counts. sum (take found.at counts) + found.rest) as_counts)
      (omega (arith, falls.1, ap (λ counts. get_or counts found.at 0) as_counts))
      ∙ ap (λ spots. slice_get spots n) (sym as_enabled)
