-- A listing shows the points of the branches, and goes on showing them when one branch changes.
use Rattle.std.proofs.Common.{◌≡◌, ◌≢◌, ℕ, zero, suc, ◌+◌, Bool, true, false, ◌&&◌, List, [], ◌∷◌, ◌++◌, map, filter, take, drop, length, refl, sym, ap, ◌∙◌}
use Rattle.std.proofs.Common.{subst, arith, if◌then◌else◌}
use Rattle.std.specs.Prelude.{slice_set}
use Rattle.bl_tree.proofs.Basics.{and_first, and_second, map_length}
use Rattle.bl_ctree.specs.Actions.{Silent}
use Rattle.bl_ctree.specs.Control.{Control, Branches, Nil, Wait, Test, Idle, Do, Turn, Seq, Par, Guard, Run, no_branch, branch, are_done, are_settled}
use Rattle.bl_ctree.specs.Control.{is_settled}
use Rattle.bl_ctree.specs.Instances.{Setting}
use Rattle.bl_ctree.specs.Laws.{SettledIsStill}
use Rattle.bl_ctree.specs.Nodes.{Seen, branches_of}
use Rattle.bl_ctree.specs.Pending.{any_meets, meets}
use Rattle.bl_ctree.specs.Points.{Point, branch_points, free_of, in_first, in_later, points, sure, within}
use Rattle.bl_ctree.specs.Positions.{Located}
use Rattle.bl_ctree.specs.Store.{Location, homes}
use Rattle.bl_ctree_pending.specs.Writes.{write_paths}
use Rattle.bl_ctree_enabled.specs.Listing.{EnabledView, Fork, IsRight, Lists, all_flagged, each_branch, enabled, flags_from, flags_of, fork_of, kept_of}
use Rattle.bl_ctree_enabled.specs.Listing.{listing_in, spots_from, spots_in, top_of, trues, with_branch}
use Rattle.bl_ctree_enabled.specs.Spots.{Spot, homes_seen, is_free_of, moved, spot_below}
use Rattle.bl_ctree_enabled.proofs.BranchLemmas.{branches_start, branches_step, is_free, spot_from}
use Rattle.bl_ctree_enabled.proofs.ListLemmas.{flagged_filter}
use Rattle.bl_ctree_enabled.proofs.NodeLemmas.{each_of, of_each}

-- ---- flags of branches one after another

pub flags_many : (hs : List (List Location)) (k : ℕ) (ms : List (List Spot)) → length (flags_from hs k ms) ≡ length ms
flags_many hs k [] = refl
flags_many hs k (m ∷ ms) = ap suc (flags_many hs (suc k) ms)

pub flags_set : (hs : List (List Location)) (j k : ℕ) (ms : List (List Spot)) (m : List Spot)
    → slice_set (flags_from hs j ms) k (flags_of hs (j + k) m) ≡ flags_from hs j (slice_set ms k m)
flags_set hs j k [] m = refl
flags_set hs j zero (x ∷ ms) m = let here : j + 0 ≡ j = omega arith in ap (λ n. flags_of hs n m ∷ flags_from hs (suc j) ms) here
flags_set hs j (suc k) (x ∷ ms) m =
    let next : j + suc k ≡ suc j + k = omega arith in
    ap (λ n. flags_of hs j x ∷ slice_set (flags_from hs (suc j) ms) k (flags_of hs n m)) next
    ∙ ap (λ rest. flags_of hs j x ∷ rest) (flags_set hs (suc j) k ms m)

-- ---- the points of the branches

drop_next : {A : Type 0} (k : ℕ) (xs : List A) (x : A) (rest : List A) → drop k xs ≡ x ∷ rest → drop (suc k) xs ≡ rest
drop_next zero [] x rest e = absurd cc
drop_next zero (y ∷ xs) x rest e = let same : xs ≡ rest = cc in whole xs ∙ same
  where
    whole : {A : Type 0} (ys : List A) → drop 0 ys ≡ ys
    whole [] = refl
    whole (y ∷ ys) = refl
drop_next (suc k) [] x rest e = absurd cc
drop_next (suc k) (y ∷ xs) x rest e = drop_next k xs x rest e

module _ (w : Setting) (i : ℕ) (all : List Seen) where
  abbrev known : List (List Location)
  known = map (homes_seen w i) all

  -- those of the branches from the one with number k on
  enabled_from : (k : ℕ) (bs : List Seen) → drop k all ≡ bs
      → filter (is_free (take k known)) (map (spot_from w [] k) (branch_points w i (branches_of bs)))
      ≡ all_flagged (flags_from known k (spots_from w i k bs)) (spots_from w i k bs)
  enabled_from k [] here = refl
  enabled_from k (b ∷ bs) here =
      let next = drop_next k all b bs here in
      ap (λ bs. filter (is_free (take k known)) (map (spot_from w [] k) (branch_points w i (branches_of bs)))) (sym here)
      ∙ branches_step w i [] all known k b refl (here ∙ ap (λ rest. b ∷ rest) (sym next))
      ∙ ap (λ bs. filter (is_free_of known k) (spots_in w i k b.tree)
      ++ filter (is_free (take (suc k) known)) (map (spot_from w [] (suc k)) (branch_points w i (branches_of bs)))) next
      ∙ (λ j. sym (flagged_filter (is_free_of known k) (spots_in w i k b.tree)) j ++ enabled_from (suc k) bs next j)

  whole_of : {A : Type 0} (xs : List A) → drop 0 xs ≡ xs
  whole_of [] = refl
  whole_of (x ∷ xs) = refl

  none_taken : {A : Type 0} (xs : List A) → take 0 xs ≡ []
  none_taken [] = refl
  none_taken (x ∷ xs) = refl

  pub enabled_all : map (spot_below w []) (branch_points w i (branches_of all))
      ≡ all_flagged (flags_from known 0 (spots_from w i 0 all)) (spots_from w i 0 all)
  enabled_all =
      sym (branches_start w i [] all)
      ∙ ap (λ front. filter (is_free front) (map (spot_from w [] 0) (branch_points w i (branches_of all)))) (sym (none_taken known))
      ∙ enabled_from 0 all (whole_of all)

-- what may act by a listing
pub listed_enabled : (w : Setting) (fork : Fork) (l : EnabledView) → Lists w fork l
    → enabled l ≡ map (spot_below w []) (branch_points w fork.instance (branches_of fork.branches))
listed_enabled w fork l lists = ap enabled lists ∙ sym (enabled_all w fork.instance fork.branches)

-- ---- a `cobegin` of which a branch has points doesn't end

settled_branches : SettledIsStill → (w : Setting) (i : ℕ) (bs : Branches) → are_settled bs ≡ true → branch_points w i bs ≡ []
settled_branches still w i no_branch e = refl
settled_branches still w i (branch weak c others) e =
    ap (λ ps. map (in_first (λ c. branch weak c others)) (free_of (any_meets w i others) ps)
    ++ map (in_later (branch weak c)) (free_of (meets w i c) (branch_points w i others)))
    (still w i c (and_first (is_settled c) (are_settled others) e))
    ∙ ap (λ ps. map (in_later (branch weak c)) (free_of (meets w i c) ps))
    (settled_branches still w i others (and_second (is_settled c) (are_settled others) e))

no_joining : SettledIsStill → (w : Setting) (i : ℕ) (s : Located) (bs : Branches) (b : Bool) → (are_settled bs && are_done bs) ≡ b →
    branch_points w i bs ≢ [] → (if b then sure i s Silent Nil else []) ≡ []
no_joining still w i s bs true is some = absurd (some (settled_branches still w i bs (and_first (are_settled bs) (are_done bs) is)))
no_joining still w i s bs false is some = refl

map_around : {A B : Type 0} (w : Setting) (around : A → B) (all : List (Point A)) →
    map (spot_below w []) (map (within around) all) ≡ map (spot_below w []) all
map_around w around [] = refl
map_around w around (p ∷ all) = ap (λ rest. spot_below w [] p ∷ rest) (map_around w around all)

none_of : {A B : Type 0} (f : A → B) (xs : List A) → xs ≡ [] → map f xs ≡ []
none_of f xs is = ap (map f) is

par_points : SettledIsStill → (w : Setting) (i : ℕ) (s : Located) (stood : Bool) (bs : Branches) → branch_points w i bs ≢ []
    → map (spot_below w []) (points w i (Par s stood bs)) ≡ map (spot_below w []) (branch_points w i bs)
par_points still w i s stood bs some =
    ap (λ own. map (spot_below w []) (own ++ map (within (Par s stood)) (branch_points w i bs)))
    (no_joining still w i s bs (are_settled bs && are_done bs) refl some)
    ∙ map_around w (Par s stood) (branch_points w i bs)

-- where some point may act by the listing, it lists all that may
pub listed_points : SettledIsStill → (w : Setting) (i : ℕ) (c : Control) (l : EnabledView) → Lists w (fork_of i c) l → enabled l ≢ [] →
    map (spot_below w []) (points w i c) ≡ enabled l
listed_points still w i Nil l lists some = absurd (some (listed_enabled w (fork_of i Nil) l lists))
listed_points still w i (Wait s) l lists some = absurd (some (listed_enabled w (fork_of i (Wait s)) l lists))
listed_points still w i (Test s) l lists some = absurd (some (listed_enabled w (fork_of i (Test s)) l lists))
listed_points still w i (Idle items) l lists some = absurd (some (listed_enabled w (fork_of i (Idle items)) l lists))
listed_points still w i (Do s) l lists some = absurd (some (listed_enabled w (fork_of i (Do s)) l lists))
listed_points still w i (Turn s) l lists some = absurd (some (listed_enabled w (fork_of i (Turn s)) l lists))
listed_points still w i (Seq c rest) l lists some = absurd (some (listed_enabled w (fork_of i (Seq c rest)) l lists))
listed_points still w i (Par s stood bs) l lists some =
    let same : enabled l ≡ map (spot_below w []) (branch_points w i bs) =
    listed_enabled w (fork_of i (Par s stood bs)) l lists ∙ ap (λ bs. map (spot_below w []) (branch_points w i bs)) (of_each bs) in
    par_points still w i s stood bs (λ none. some (same ∙ none_of (spot_below w []) (branch_points w i bs) none)) ∙ sym same
listed_points still w i (Guard s phase stood c) l lists some = absurd (some (listed_enabled w (fork_of i (Guard s phase stood c)) l lists))
listed_points still w i (Run s callee phase stood c) l lists some = absurd (some (listed_enabled w (fork_of i (Run s callee phase stood c)) l lists))

-- ---- one branch changes

pub moved_homes : (w : Setting) (i : ℕ) (bs : List Seen) (k : ℕ) (d : Control)
    → map (homes_seen w i) (moved bs k (λ c. d)) ≡ slice_set (map (homes_seen w i) bs) k (homes w i (write_paths d))
moved_homes w i [] k d = refl
moved_homes w i (b ∷ bs) zero d = refl
moved_homes w i (b ∷ bs) (suc k) d = ap (λ rest. homes_seen w i b ∷ rest) (moved_homes w i bs k d)

pub moved_spots : (w : Setting) (i j k : ℕ) (bs : List Seen) (d : Control)
    → spots_from w i j (moved bs k (λ c. d)) ≡ slice_set (spots_from w i j bs) k (spots_in w i (j + k) d)
moved_spots w i j k [] d = refl
moved_spots w i j zero (b ∷ bs) d = let here : j ≡ j + 0 = omega arith in ap (λ n. spots_in w i n d ∷ spots_from w i (suc j) bs) here
moved_spots w i j (suc k) (b ∷ bs) d =
    let next : suc j + k ≡ j + suc k = omega arith in
    ap (λ rest. spots_in w i j b.tree ∷ rest) (moved_spots w i (suc j) k bs d)
    ∙ ap (λ n. spots_in w i j b.tree ∷ slice_set (spots_from w i (suc j) bs) k (spots_in w i n d)) next

top_moved : (c : Control) (k : ℕ) (d : Control) → top_of (with_branch c k d) ≡ moved (top_of c) k (λ c. d)
top_moved Nil k d = refl
top_moved (Wait s) k d = refl
top_moved (Test s) k d = refl
top_moved (Idle items) k d = refl
top_moved (Do s) k d = refl
top_moved (Turn s) k d = refl
top_moved (Seq c rest) k d = refl
top_moved (Par s stood bs) k d = each_of (moved (each_branch bs) k (λ c. d))
top_moved (Guard s phase stood c) k d = refl
top_moved (Run s callee phase stood c) k d = refl

-- what is right is what is kept of its homes and points
pub right_kept : (l : EnabledView) → IsRight l → l ≡ kept_of l.homes l.spots
right_kept l right = λ j. record {
  homes = l.homes;
  spots = l.spots;
  free = right.free j;
  counts = (right.counts ∙ ap (map trues) right.free) j;
}

-- what is kept after a branch has changed is right where it was before
pub listed_moved : (w : Setting) (i : ℕ) (c : Control) (k : ℕ) (d : Control) (l new : EnabledView) → Lists w (fork_of i c) l
    → new.homes ≡ slice_set l.homes k (homes w i (write_paths d)) → new.spots ≡ slice_set l.spots k (spots_in w i k d) → IsRight new
    → Lists w (fork_of i (with_branch c k d)) new
listed_moved w i c k d l new lists is_homes is_spots right =
    let first : k ≡ 0 + k = omega arith in
    right_kept new right
    ∙ (λ j. kept_of
    ((is_homes ∙ ap (λ l. slice_set l.homes k (homes w i (write_paths d))) lists ∙ sym (moved_homes w i (top_of c) k d)) j)
    ((is_spots ∙ ap (λ l. slice_set l.spots k (spots_in w i k d)) lists
    ∙ ap (λ n. slice_set (spots_from w i 0 (top_of c)) k (spots_in w i n d)) first ∙ sym (moved_spots w i 0 k (top_of c) d)) j))
    ∙ ap (λ bs. listing_in w (record { instance = i; branches = bs })) (sym (top_moved c k d))

pub spots_many : (w : Setting) (i k : ℕ) (bs : List Seen) → length (spots_from w i k bs) ≡ length bs
spots_many w i k [] = refl
spots_many w i k (b ∷ bs) = ap suc (spots_many w i (suc k) bs)

-- what is kept of branches is right
pub kept_right : (w : Setting) (fork : Fork) (l : EnabledView) → Lists w fork l
    → IsRight l × (length l.homes ≡ length fork.branches) × (length l.spots ≡ length fork.branches)
kept_right w fork l lists = (
  subst IsRight (sym lists) (record { free = refl; counts = refl }),
  ap (λ l. length l.homes) lists ∙ map_length (homes_seen w fork.instance) fork.branches,
  ap (λ l. length l.spots) lists ∙ spots_many w fork.instance 0 fork.branches,
)
