-- Points that are asked again, as one branch changes.
use Rattle.std.specs.Prelude.{◌≡◌, ℕ, suc, ◌+◌, Bool, cond, not, ◌&&◌, ◌||◌, nat_eq, List, [], ◌∷◌, take, drop}
use Rattle.std.specs.List.{list_any}
use Rattle.bl_ctree.specs.Store.{Location, overlap}
use Rattle.bl_ctree_enabled.specs.Listing.{list_at, touches}
use Rattle.bl_ctree_enabled.specs.Spots.{Spot, is_free_of, meets_one}
use Rattle.bl_ctree_enabled.specs.inner.Tables.{Key}

-- whether the branch of the key is another one than that with number k, and may still write what overlaps the home
abbrev pub is_hit : List (List Location) → ℕ → Location → Key → Bool
is_hit all k at key = not (nat_eq key.2 k) && list_any (overlap at) (list_at all key.2)

-- whether another branch than the one with number k may still write what overlaps the home
abbrev pub is_taken : List (List Location) → ℕ → Location → Bool
is_taken all k at = meets_one (take k all) at || meets_one (drop (k + 1) all) at

-- the flags of the points of the branch with number j, of which those are asked again that read what overlaps the changed homes
abbrev pub asked_flags : List (List Location) → ℕ → List Location → List Spot → List Bool → List Bool
asked_flags all j changed [] flags = flags
asked_flags all j changed (spot ∷ spots) [] = []
asked_flags all j changed (spot ∷ spots) (flag ∷ flags) =
    cond (touches changed spot.reads) (is_free_of all j spot) flag ∷ asked_flags all j changed spots flags

-- the flags of the points of several branches, renewed for points that read what overlaps the changed homes
abbrev pub asked_from : List (List Location) → ℕ → List Location → List (List Spot) → List (List Bool) → List (List Bool)
asked_from all j changed [] free = free
asked_from all j changed (spots ∷ rest) [] = []
asked_from all j changed (spots ∷ rest) (flags ∷ free) = asked_flags all j changed spots flags ∷ asked_from all (suc j) changed rest free

-- if reads overlap the homes removed iff they overlap those added, they overlap the homes before iff they overlap those now
abbrev pub DecidedBy : List Location → List Location → List Location → List Location → Type 0
DecidedBy gone come before now =
    (reads : List Location) → touches gone reads ≡ touches come reads → touches before reads ≡ touches now reads
