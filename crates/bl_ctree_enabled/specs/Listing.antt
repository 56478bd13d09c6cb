-- The points of the branches of a `cobegin` as they are kept from one step to the next.
use Rattle.std.specs.Prelude.{ℕ, zero, suc, Bool, true, false, List, [], ◌∷◌, ◌++◌, map, ◌≡◌}
use Rattle.std.specs.List.{list_any}
use Rattle.bl_ctree.specs.Control.{Control, Branches, Nil, Wait, Test, Idle, Do, Turn, Seq, Par, Guard, Run, no_branch, branch}
use Rattle.bl_ctree.specs.Instances.{Setting}
use Rattle.bl_ctree.specs.Nodes.{Seen, branches_of}
use Rattle.bl_ctree.specs.Points.{points}
use Rattle.bl_ctree.specs.Store.{Location, overlap}
use Rattle.bl_ctree_store.specs.Seen.{location_of}
use Rattle.bl_ctree_enabled.specs.declared.listing.Listing.{Listing}
use Rattle.bl_ctree_enabled.specs.Spots.{Spot, homes_seen, is_free_of, moved, spot_below, spot_of}

-- ---- lists of points, and which of them may act

-- whether a location that is read overlaps a home in the list
abbrev pub touches : List Location → List Location → Bool
touches homes reads = list_any (λ at. list_any (overlap at) homes) reads

-- the flags of the points of branch k, true for those that read nothing that other branches may still write
abbrev pub flags_of : List (List Location) → ℕ → List Spot → List Bool
flags_of homes k spots = map (is_free_of homes k) spots

-- the flags of the points of several branches, the first of which has number k
abbrev pub flags_from : List (List Location) → ℕ → List (List Spot) → List (List Bool)
flags_from homes k [] = []
flags_from homes k (spots ∷ rest) = flags_of homes k spots ∷ flags_from homes (suc k) rest

-- the number of flags that are true
abbrev pub trues : List Bool → ℕ
trues [] = 0
trues (true ∷ rest) = suc (trues rest)
trues (false ∷ rest) = trues rest

-- the elements whose flags are true
abbrev pub flagged : {A : Type 0} → List Bool → List A → List A
flagged [] xs = []
flagged (b ∷ bs) [] = []
flagged (true ∷ bs) (x ∷ xs) = x ∷ flagged bs xs
flagged (false ∷ bs) (x ∷ xs) = flagged bs xs

-- the elements of several lists whose flags are true
abbrev pub all_flagged : {A : Type 0} → List (List Bool) → List (List A) → List A
all_flagged [] lists = []
all_flagged (bs ∷ rest) [] = []
all_flagged (bs ∷ rest) (xs ∷ lists) = flagged bs xs ++ all_flagged rest lists

-- the list with number k; none where there are fewer
abbrev pub list_at : {A : Type 0} → List (List A) → ℕ → List A
list_at [] k = []
list_at (xs ∷ lists) zero = xs
list_at (xs ∷ lists) (suc k) = list_at lists k

-- ---- as they are kept

-- the pending writes of each branch, its points, their flags, and the number of enabled ones
pub record EnabledView : Type 0 where
  pub homes : List (List Location)
  pub spots : List (List Spot)
  pub free : List (List Bool)
  pub counts : List ℕ

-- the view of a listing
abbrev pub enabled_view : Listing → EnabledView
enabled_view l = record { homes = map (map location_of) l.homes; spots = map (map spot_of) l.points; free = l.free; counts = l.counts }

-- the points that may act, one branch after another
abbrev pub enabled : EnabledView → List Spot
enabled l = all_flagged l.free l.spots

-- the flags and the counts are right
pub record IsRight (l : EnabledView) : Type 0 where
  pub free : l.free ≡ flags_from l.homes 0 l.spots
  pub counts : l.counts ≡ map trues l.free

-- ---- of the branches of a tree

-- the branches of a control tree as a list, in order
abbrev pub each_branch : Branches → List Seen
each_branch no_branch = []
each_branch (branch weak c rest) = record { weak = weak; tree = c } ∷ each_branch rest

-- branches of a `cobegin`, and the instance in which they stand
pub record Fork : Type 0 where
  pub instance : ℕ
  pub branches : List Seen

-- the branches of a `cobegin`; none of every other tree
abbrev pub top_of : Control → List Seen
top_of Nil = []
top_of (Wait s) = []
top_of (Test s) = []
top_of (Idle items) = []
top_of (Do s) = []
top_of (Turn s) = []
top_of (Seq c rest) = []
top_of (Par s stood branches) = each_branch branches
top_of (Guard s phase stood c) = []
top_of (Run s callee phase stood c) = []

-- the branches of a tree that stands in the instance
abbrev pub fork_of : ℕ → Control → Fork
fork_of i c = record { instance = i; branches = top_of c }

-- a `cobegin` of which the branch with number k becomes this tree; every other tree as it is
abbrev pub with_branch : Control → ℕ → Control → Control
with_branch Nil k d = Nil
with_branch (Wait s) k d = Wait s
with_branch (Test s) k d = Test s
with_branch (Idle items) k d = Idle items
with_branch (Do s) k d = Do s
with_branch (Turn s) k d = Turn s
with_branch (Seq c rest) k d = Seq c rest
with_branch (Par s stood branches) k d = Par s stood (branches_of (moved (each_branch branches) k (λ c. d)))
with_branch (Guard s phase stood c) k d = Guard s phase stood c
with_branch (Run s callee phase stood c) k d = Run s callee phase stood c

-- the points of the branch with number k of branches that stand in the instance
abbrev pub spots_in : Setting → ℕ → ℕ → Control → List Spot
spots_in w i k c = map (spot_below w (k ∷ [])) (points w i c)

-- the points of each of several branches, the first of which has number k
abbrev pub spots_from : Setting → ℕ → ℕ → List Seen → List (List Spot)
spots_from w i k [] = []
spots_from w i k (b ∷ rest) = spots_in w i k b.tree ∷ spots_from w i (suc k) rest

-- the listing of branches with the given pending writes and points
abbrev pub kept_of : List (List Location) → List (List Spot) → EnabledView
kept_of homes spots = record { homes = homes; spots = spots; free = flags_from homes 0 spots; counts = map trues (flags_from homes 0 spots) }

-- the listing of the branches of a fork
abbrev pub listing_in : Setting → Fork → EnabledView
listing_in w fork = kept_of (map (homes_seen w fork.instance) fork.branches) (spots_from w fork.instance 0 fork.branches)

-- the listing is that of the branches of the fork
abbrev pub Lists : Setting → Fork → EnabledView → Type 0
Lists w fork l = l ≡ listing_in w fork
