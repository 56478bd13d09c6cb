-- The flags of a listing in which one branch is replaced, before others are asked again.
use Rattle.std.proofs.Common.{◌≡◌, ℕ, ◌+◌, ◌<◌, Bool, List, map, length, sym, ap, ◌∙◌, arith}
use Rattle.std.specs.Prelude.{Some, slice_get, slice_set}
use Rattle.bl_tree.proofs.Basics.{map_length}
use Rattle.bl_ctree.specs.Store.{Location}
use Rattle.bl_ctree_enabled.specs.Listing.{EnabledView, IsRight, flags_from, flags_of, trues}
use Rattle.bl_ctree_enabled.specs.Spots.{Spot}
use Rattle.bl_ctree_enabled.proofs.ListLemmas.{set_map, set_twice}
use Rattle.bl_ctree_enabled.proofs.ListingLemmas.{flags_many, flags_set}
use Rattle.bl_ctree_store.proofs.StoreLemmas.{set_own}

-- as one branch is replaced
pub flags_replaced : (hs : List (List Location)) (ms : List (List Spot)) (fs : List (List Bool)) (k : ℕ) (h h' : List Location) (m : List Spot)
    (f : List Bool) → fs ≡ flags_from hs 0 ms → slice_get hs k ≡ Some h → f ≡ flags_of hs k m
    → slice_set fs k f ≡ flags_from (slice_set (slice_set hs k h') k h) 0 (slice_set ms k m)
flags_replaced hs ms fs k h h' m f is here is_f =
    let first : k ≡ 0 + k = omega arith in
    ap (λ fs. slice_set fs k f) is ∙ ap (slice_set (flags_from hs 0 ms) k) (is_f ∙ ap (λ n. flags_of hs n m) first) ∙ flags_set hs 0 k ms m
    ∙ ap (λ hs. flags_from hs 0 (slice_set ms k m)) (sym (set_twice hs k h' h ∙ set_own hs k h here))

pub counts_set : (fs : List (List Bool)) (cs : List ℕ) (k : ℕ) (f : List Bool) → cs ≡ map trues fs → slice_set cs k (trues f)
    ≡ map trues (slice_set fs k f)
counts_set fs cs k f is = ap (λ cs. slice_set cs k (trues f)) is ∙ sym (set_map trues fs k f)

-- ---- a listing in which one branch is replaced

module _ (l : EnabledView) (right : IsRight l) (many_spots : length l.spots ≡ length l.homes) (k : ℕ) (within : k < length l.homes) where
  pub free_within : k < length l.free
  free_within = omega (arith, within, many_spots, ap length right.free, flags_many l.homes 0 l.spots)

  pub counts_within : k < length l.counts
  counts_within = omega (arith, free_within, ap length right.counts, map_length trues l.free)

module _ (l : EnabledView) (right : IsRight l) (k : ℕ) (before h : List Location) (m : List Spot) (f : List Bool) (here : slice_get l.homes k ≡ Some before)
    (is_f : f ≡ flags_of l.homes k m) where
  pub set_flags : slice_set l.free k f ≡ flags_from (slice_set (slice_set l.homes k h) k before) 0 (slice_set l.spots k m)
  set_flags = flags_replaced l.homes l.spots l.free k before h m f right.free here is_f

  pub set_counts : slice_set l.counts k (trues f) ≡ map trues (slice_set l.free k f)
  set_counts = counts_set l.free l.counts k f right.counts
