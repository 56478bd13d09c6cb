-- Which points read nothing that other branches may still write, when one branch has other homes.
use Rattle.std.proofs.Common.{◌≡◌, ℕ, zero, suc, ◌+◌, not, ◌&&◌, ◌||◌, List, [], ◌∷◌}
use Rattle.std.proofs.Common.{take, drop, refl, sym, ap, ◌∙◌}
use Rattle.std.specs.Prelude.{Some, slice_get, slice_set}
use Rattle.std.specs.List.{list_any}
use Rattle.bl_ctree.specs.Store.{Location, overlap}
use Rattle.bl_ctree_enabled.specs.Listing.{touches}
use Rattle.bl_ctree_enabled.specs.Spots.{Spot, is_free_of, meets_one, taken}
use Rattle.bl_ctree_enabled.proofs.BranchLemmas.{any_or}

-- one list of homes, and the others
pub taken_first : (hs : List Location) (rest : List (List Location)) (reads : List Location) →
    taken (hs ∷ rest) reads ≡ (touches hs reads || taken rest reads)
taken_first hs rest reads = any_or (λ at. list_any (overlap at) hs) (meets_one rest) reads

both_alike : (hs gs : List Location) (rest : List (List Location)) (reads : List Location) → touches hs reads ≡ touches gs reads →
    taken (hs ∷ rest) reads ≡ taken (gs ∷ rest) reads
both_alike hs gs rest reads same = taken_first hs rest reads ∙ ap (λ b. b || taken rest reads) same ∙ sym (taken_first gs rest reads)

more_first : (x : List Location) (xs ys : List (List Location)) (reads : List Location) → taken xs reads ≡ taken ys reads →
    taken (x ∷ xs) reads ≡ taken (x ∷ ys) reads
more_first x xs ys reads same = taken_first x xs reads ∙ ap (λ b. touches x reads || b) same ∙ sym (taken_first x ys reads)

-- the homes that one of the branches had overlap what is read where those that it has do
abbrev pub Alike : List (List Location) → ℕ → List Location → List Location → Type 0
Alike all k before reads = (hs : List Location) → slice_get all k ≡ Some hs → touches before reads ≡ touches hs reads

front_same : (all : List (List Location)) (k j : ℕ) (before reads : List Location) → Alike all k before reads →
    taken (take j (slice_set all k before)) reads ≡ taken (take j all) reads
front_same [] k j before reads alike = refl
front_same (x ∷ all) zero zero before reads alike = refl
front_same (x ∷ all) zero (suc j) before reads alike = both_alike before x (take j all) reads (alike x refl)
front_same (x ∷ all) (suc k) zero before reads alike = refl
front_same (x ∷ all) (suc k) (suc j) before reads alike =
    more_first x (take j (slice_set all k before)) (take j all) reads (front_same all k j before reads alike)

behind_same : (all : List (List Location)) (k j : ℕ) (before reads : List Location) → Alike all k before reads →
    taken (drop j (slice_set all k before)) reads ≡ taken (drop j all) reads
behind_same [] k j before reads alike = refl
behind_same (x ∷ all) zero zero before reads alike = both_alike before x all reads (alike x refl)
behind_same (x ∷ all) zero (suc j) before reads alike = refl
behind_same (x ∷ all) (suc k) zero before reads alike =
    more_first x (slice_set all k before) all reads (whole_same all k before reads alike)
  where
    whole_same : (all : List (List Location)) (k : ℕ) (before reads : List Location) → Alike all k before reads →
        taken (slice_set all k before) reads ≡ taken all reads
    whole_same [] k before reads alike = refl
    whole_same (x ∷ all) zero before reads alike = both_alike before x all reads (alike x refl)
    whole_same (x ∷ all) (suc k) before reads alike = more_first x (slice_set all k before) all reads (whole_same all k before reads alike)
behind_same (x ∷ all) (suc k) (suc j) before reads alike = behind_same all k j before reads alike

-- a flag is as it was
pub flag_same : (all : List (List Location)) (k j : ℕ) (before : List Location) (spot : Spot) → Alike all k before spot.reads
    → is_free_of (slice_set all k before) j spot ≡ is_free_of all j spot
flag_same all k j before spot alike =
    λ i. not (front_same all k j before spot.reads alike i) && not (behind_same all k (j + 1) before spot.reads alike i)
