-- What a listing tells of a tree.
use Rattle.std.specs.Prelude.{ℕ, [], ◌≡◌, ◌≢◌, length, map, slice_set}
use Rattle.bl_ctree.specs.Control.{Control}
use Rattle.bl_ctree.specs.Instances.{Setting}
use Rattle.bl_ctree.specs.Nodes.{branches_of}
use Rattle.bl_ctree.specs.Points.{branch_points, points}
use Rattle.bl_ctree.specs.Store.{homes}
use Rattle.bl_ctree_pending.specs.Writes.{write_paths}
use Rattle.bl_ctree_enabled.specs.Listing.{EnabledView, Fork, IsRight, Lists, enabled, fork_of, spots_in, with_branch}
use Rattle.bl_ctree_enabled.specs.Spots.{spot_below}

-- a listing of branches is right, and has the homes and the points of each branch
abbrev pub ListedIsRight : Type 0
ListedIsRight = (w : Setting) (fork : Fork) (l : EnabledView) → Lists w fork l
    → IsRight l × (length l.homes ≡ length fork.branches) × (length l.spots ≡ length fork.branches)

-- the enabled points of a right listing of branches are the points of these branches, in order
abbrev pub BranchesAreListed : Type 0
BranchesAreListed = (w : Setting) (fork : Fork) (l : EnabledView) → Lists w fork l
    → enabled l ≡ map (spot_below w []) (branch_points w fork.instance (branches_of fork.branches))

-- where some point may act by a listing of the branches of a tree, those that may are the points of the whole tree
abbrev pub PointsAreListed : Type 0
PointsAreListed = (w : Setting) (i : ℕ) (c : Control) (l : EnabledView) → Lists w (fork_of i c) l → enabled l ≢ []
    → map (spot_below w []) (points w i c) ≡ enabled l

-- a listing in which one branch is replaced lists the branches of the tree of which that branch becomes another tree
abbrev pub ReplacedIsListed : Type 0
ReplacedIsListed = (w : Setting) (i : ℕ) (c : Control) (k : ℕ) (d : Control) (l new : EnabledView) → Lists w (fork_of i c) l
    → new.homes ≡ slice_set l.homes k (homes w i (write_paths d)) → new.spots ≡ slice_set l.spots k (spots_in w i k d) → IsRight new
    → Lists w (fork_of i (with_branch c k d)) new
