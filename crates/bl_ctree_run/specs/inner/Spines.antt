-- Spines: the way from the root of a tree down to the `cobegin` for which all else in the tree waits.
use Rattle.std.specs.Prelude.{ℕ, Bool, true, false, not, Option, Some, None, option_map, map, length, ◌≡◌, ◌<◌, if◌then◌else◌}
use Rattle.bl_ctree.specs.Control.{Control, Nil, Wait, Test, Idle, Do, Turn, Seq, Par, Guard, Run, Check, Body}
use Rattle.bl_ctree.specs.Instances.{Setting}
use Rattle.bl_ctree.specs.Nodes.{control_of}
use Rattle.bl_ctree.specs.Positions.{none_left}
use Rattle.bl_ctree.specs.Store.{homes}
use Rattle.bl_ctree_pending.specs.Writes.{write_paths}
use Rattle.bl_ctree_store.specs.Seen.{location_of}
use Rattle.bl_ctree_enabled.specs.declared.listing.Listing.{Listing}
use Rattle.bl_ctree_enabled.specs.Listing.{EnabledView, Fork, enabled_view, flags_of, fork_of, listing_in, spots_in, with_branch}
use Rattle.bl_ctree_enabled.specs.Spots.{spot_of}
use Rattle.bl_ctree_run.specs.declared.listed.Kept.{Kept}
use Rattle.bl_ctree_run.specs.declared.listed.Next.{Next}

-- the fork at the end of a tree's spine and its instance, without branches where the spine ends in another node
abbrev pub fork_at : ℕ → Control → Fork
fork_at i Nil = fork_of i Nil
fork_at i (Wait s) = fork_of i (Wait s)
fork_at i (Test s) = fork_of i (Test s)
fork_at i (Idle items) = fork_of i (Idle items)
fork_at i (Do s) = fork_of i (Do s)
fork_at i (Turn s) = fork_of i (Turn s)
fork_at i (Seq c rest) = if none_left rest then fork_of i (Seq c rest) else fork_at i c
fork_at i (Par s stood branches) = fork_of i (Par s stood branches)
fork_at i (Guard s Check stood c) = fork_of i (Guard s Check stood c)
fork_at i (Guard s Body stood c) = fork_at i c
fork_at i (Run s callee Check stood c) = fork_of i (Run s callee Check stood c)
fork_at i (Run s callee Body stood c) = fork_at callee c

-- a tree in which the branch with number k of that `cobegin` becomes this tree
abbrev pub with_fork : Control → ℕ → Control → Control
with_fork Nil k d = Nil
with_fork (Wait s) k d = Wait s
with_fork (Test s) k d = Test s
with_fork (Idle items) k d = Idle items
with_fork (Do s) k d = Do s
with_fork (Turn s) k d = Turn s
with_fork (Seq c rest) k d = if none_left rest then Seq c rest else Seq (with_fork c k d) rest
with_fork (Par s stood branches) k d = with_branch (Par s stood branches) k d
with_fork (Guard s Check stood c) k d = Guard s Check stood c
with_fork (Guard s Body stood c) k d = Guard s Body stood (with_fork c k d)
with_fork (Run s callee Check stood c) k d = Run s callee Check stood c
with_fork (Run s callee Body stood c) k d = Run s callee Body stood (with_fork c k d)

-- whether the spine leads on below the root
abbrev pub leads_on : Control → Bool
leads_on Nil = false
leads_on (Wait s) = false
leads_on (Test s) = false
leads_on (Idle items) = false
leads_on (Do s) = false
leads_on (Turn s) = false
leads_on (Seq c rest) = not (none_left rest)
leads_on (Par s stood branches) = false
leads_on (Guard s Check stood c) = false
leads_on (Guard s Body stood c) = true
leads_on (Run s callee Check stood c) = false
leads_on (Run s callee Body stood c) = true

-- ---- what is kept of the branches at the end of a spine

-- the view of an optional listing
abbrev pub listed_by : Option Listing → Option EnabledView
listed_by listing = option_map enabled_view listing

-- where something is listed it is the `cobegin` at the end of the spine of the tree
abbrev pub ListsEnd : Setting → Control → Option EnabledView → Type 0
ListsEnd w c listed = listed ≡ option_map (λ l. listing_in w (fork_at 0 c)) listed

-- the tree after a step, as a whole or as the branch of the listed tree of which something is kept
abbrev pub led_by : Control → Control → Option Kept → Control
led_by c d None = d
led_by c d (Some kept) = with_fork c kept.branch d

-- the tree to which an action leads
abbrev pub led : Control → Next → Control
led c next = led_by c (control_of next.tree) next.kept

-- the kept listing is that of a listed branch, which the given tree replaces
pub record Fits (w : Setting) (c : Control) (l : EnabledView) (d : Control) (kept : Kept) : Type 0 where
  pub within : kept.branch < length l.homes
  pub homes : map location_of kept.found.homes ≡ homes w (fork_at 0 c).instance (write_paths d)
  pub spots : map spot_of kept.found.points ≡ spots_in w (fork_at 0 c).instance kept.branch d
  pub free : kept.free ≡ flags_of l.homes kept.branch (map spot_of kept.found.points)

-- an optional kept listing fits the tree; nothing is kept where nothing is listed
abbrev pub FitsAny : Setting → Control → Option EnabledView → Control → Option Kept → Type 0
FitsAny w c listed d None = Unit {0}
FitsAny w c None d (Some kept) = ⊥
FitsAny w c (Some l) d (Some kept) = Fits w c l d kept

-- the listing kept for the tree after an action fits that tree
abbrev pub FitsListed : Setting → Control → Option EnabledView → Next → Type 0
FitsListed w c listed next = FitsAny w c listed (control_of next.tree) next.kept
