-- What is listed of branches, and what is kept of one that changes.
use Rattle.std.proofs.Common.{◌≡◌, ℕ, ◌<◌, ◌≤◌, Bool, List, [], ◌∷◌, ◌++◌, map, length, get_or, sym, ap, ◌∙◌, subst}
use Rattle.std.specs.Prelude.{Option, Some, slice_get, slice_set}
use Rattle.bl_ctree.specs.declared.node.Branch.{Branch as BranchNode, out-Branch}
use Rattle.bl_ctree.specs.Control.{Control}
use Rattle.bl_ctree.specs.Instances.{Setting}
use Rattle.bl_ctree.specs.Nodes.{Seen, control_of, seen_of}
use Rattle.bl_ctree_enabled.specs.declared.listing.Listing.{Listing}
use Rattle.bl_ctree_enabled.specs.Laws.{ReplacedIsListed}
use Rattle.bl_ctree_enabled.specs.Listing.{EnabledView, Fork, IsRight, Lists, enabled_view}
use Rattle.bl_ctree_enabled.specs.Spots.{spot_of}
use Rattle.bl_ctree_enabled.proofs.ListLemmas.{map_here}
use Rattle.bl_ctree_enabled.proofs.NodeLemmas.{seen_out}
use Rattle.bl_ctree_store.specs.Seen.{location_of}
use Rattle.bl_ctree_run.specs.declared.listed.Kept.{Kept}
use Rattle.bl_ctree_run.specs.inner.Spines.{Fits, ListsEnd, fork_at, listed_by, with_fork}
use Rattle.bl_ctree_run.specs.inner.Spots.{after_by}
use Rattle.bl_ctree_run.proofs.SpineLemmas.{leads_into, spine_replaced}

-- ---- what is listed

-- where something is listed
pub lists_end : (w : Setting) (c : Control) (listed : Option Listing) (l : Listing) → ListsEnd w c (listed_by listed) → listed ≡ Some l →
    Lists w (fork_at 0 c) (enabled_view l)
lists_end w c listed l lists is =
    let here : ListsEnd w c (Some (enabled_view l)) = subst (λ listed. ListsEnd w c (listed_by listed)) is lists in cc

-- ---- a branch changes

-- the tree in which a branch becomes what the answer makes of it
pub change_leads : (w : Setting) (c : Control) (path : List ℕ) (k : ℕ) (rest : List ℕ) (answer : Bool) (i : ℕ) (xs : List BranchNode) (x : BranchNode)
    (d : Control) → path ≡ k ∷ rest → fork_at 0 c ≡ record { instance = i; branches = map seen_of xs } → k < length xs → x ≡ get_or xs k x
    → d ≡ after_by w i (control_of (out-Branch x).tree) rest answer → with_fork c k d ≡ after_by w 0 c path answer
change_leads w c path k rest answer i xs x d is_path is_fork within is is_made =
    ap (with_fork c k) (is_made
    ∙ (λ j. after_by w (sym (ap (λ (fork : Fork). fork.instance) is_fork) j) (ap (λ (b : Seen). b.tree) (sym (seen_out x)) j) rest answer))
    ∙ leads_into w rest answer 0 c k (seen_of x)
    (ap (λ (fork : Fork). slice_get fork.branches k) is_fork ∙ map_here seen_of xs k x within is)
    ∙ sym (ap (λ path. after_by w 0 c path answer) is_path)

-- what is listed then
pub kept_lists : ReplacedIsListed → (w : Setting) (c c' d : Control) (l new : EnabledView) (kept : Kept) → Lists w (fork_at 0 c) l → Fits w c l d kept
    → new.homes ≡ slice_set l.homes kept.branch (map location_of kept.found.homes)
    → new.spots ≡ slice_set l.spots kept.branch (map spot_of kept.found.points) → IsRight new → c' ≡ with_fork c kept.branch d
    → Lists w (fork_at 0 c') new
kept_lists law w c c' d l new kept lists fits is_homes is_spots right is =
    subst (λ c. Lists w (fork_at 0 c) new) (sym is)
    (spine_replaced law w kept.branch d l new 0 c lists (is_homes ∙ ap (slice_set l.homes kept.branch) fits.homes)
    (is_spots ∙ ap (slice_set l.spots kept.branch) fits.spots) right)
