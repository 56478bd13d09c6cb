-- What can still happen in a tree before its next pause, by syntax alone: whether it may end, and what it may write.
use Rattle.std.specs.Prelude.{ℕ, Bool, true, false, not, ◌&&◌, ◌||◌, List, [], ◌∷◌, map, if◌then◌else◌}
use Rattle.std.specs.List.{list_any}
use Rattle.bl_tree.specs.declared.tree.Arm.{Arm}
use Rattle.bl_tree.specs.declared.tree.Branch.{Branch}
use Rattle.bl_tree.specs.declared.tree.Guard.{Guard as GuardKind}
use Rattle.bl_tree.specs.declared.tree.Guard.TheVariants.{Abort, Reset}
use Rattle.bl_tree.specs.declared.tree.Stmt.{Stmt}
use Rattle.bl_tree.specs.declared.tree.StmtKind.{StmtKind}
use Rattle.bl_tree.specs.declared.tree.StmtKind.TheOpen.{StmtKind-F}
use Rattle.bl_tree.specs.declared.static_path.Static.{Static}
use Rattle.bl_tree.specs.Effects.{target_static}
use Rattle.bl_tree.specs.Instant.{instant}
use Rattle.bl_tree.specs.Static.{static_of}
use Rattle.bl_effects.specs.Surface.{surface_of}
use Rattle.bl_ctree.specs.Actions.{Action, reads_of}
use Rattle.bl_ctree.specs.Control.{Control, Branches, Nil, Wait, Test, Idle, Do, Turn, Seq, Par, Guard, Run, no_branch, branch, Phase, Check, Body, has_strong}
use Rattle.bl_ctree.specs.Control.{is_settled}
use Rattle.bl_ctree.specs.Instances.{Setting}
use Rattle.bl_ctree.specs.Positions.{Item, Begin, Again, Located, kind_of}
use Rattle.bl_ctree.specs.Store.{Location, homes, overlap}

-- ---- ends

-- whether a `when` of this kind resets its body
abbrev pub is_reset_kind : GuardKind → Bool
is_reset_kind Abort = false
is_reset_kind Reset = true

-- whether the statement is a `when .. reset`
abbrev pub is_reset : {A B C D : Type 0} → StmtKind-F A B C D → Bool
is_reset (StmtKind-F.When guard e body) = is_reset_kind guard
is_reset _ = false

-- whether the item may end in the tick in which it begins
abbrev pub item_may_end : Item → Bool
item_may_end (Begin s) = instant s.stmt
item_may_end (Again s) = true

-- whether the items may all end in the tick in which they begin
abbrev pub items_may_end : List Item → Bool
items_may_end [] = true
items_may_end (item ∷ rest) = item_may_end item && items_may_end rest

-- a guard that is still to be tested: `abort` may end it, `reset` may begin its body anew
abbrev pub guard_may_end : Phase → Located → Bool → Bool
guard_may_end Check s inner = if is_reset (kind_of s) then inner || instant s.stmt else true
guard_may_end Body s inner = inner

-- whether a Run may end, where the last says whether its body may: before its inputs are copied it counts as one that may
abbrev pub run_may_end : Phase → Bool → Bool
run_may_end Check inner = true
run_may_end Body inner = inner

abbrev mutual
  -- whether the tree may end in this tick
  pub may_end : Control → Bool
  may_end Nil = true
  may_end (Wait s) = false
  may_end (Test s) = true
  may_end (Idle items) = false
  may_end (Do s) = instant s.stmt
  may_end (Turn s) = true
  may_end (Seq c rest) = may_end c && items_may_end rest
  may_end (Par s stood branches) = may_join (has_strong branches) branches
  may_end (Guard s phase stood c) = guard_may_end phase s (may_end c)
  may_end (Run s i phase stood c) = run_may_end phase (may_end c)

  -- whether branches let their `cobegin` end: all strong ones may end, or some branch may where none is strong
  pub may_join : Bool → Branches → Bool
  may_join true no_branch = true
  may_join false no_branch = false
  may_join true (branch weak c rest) = (weak || may_end c) && may_join true rest
  may_join false (branch weak c rest) = may_end c || may_join false rest

-- ---- writes: whether one of the static paths that may still be written has a home that overlaps the location

-- whether a path of the instance in the list has a home that overlaps the location
abbrev pub lie_over : Setting → ℕ → List Static → Location → Bool
lie_over w i paths at = list_any (overlap at) (homes w i paths)

-- what a statement that begins can write before it pauses, as a list
abbrev pub surface_over : Setting → ℕ → Located → Location → Bool
surface_over w i s at = lie_over w i (surface_of s.stmt).writes at

-- a loop's surface is that of its body
abbrev pub item_surface : Setting → ℕ → Item → Location → Bool
item_surface w i (Begin s) at = surface_over w i s at
item_surface w i (Again s) at = surface_over w i s at

-- the surface writes of the first item and, where the first may end, of the rest
abbrev pub items_surface : Setting → ℕ → List Item → Location → Bool
items_surface w i [] at = false
items_surface w i (item ∷ rest) at = item_surface w i item at || (item_may_end item && items_surface w i rest at)

-- the paths that a `run` gives its activity as outputs; none for other statements
abbrev pub outputs_of_kind : StmtKind-F StmtKind Arm Branch Stmt → List Static
outputs_of_kind (StmtKind-F.Run target a inputs outputs) = map static_of outputs
outputs_of_kind _ = []

-- the path that gets the result of a `run`, where it has a target; none for other statements
abbrev pub target_of_kind : StmtKind-F StmtKind Arm Branch Stmt → List Static
target_of_kind (StmtKind-F.Run target a inputs outputs) = target_static target
target_of_kind _ = []

-- an unsettled `run` may write all its outputs, whatever its body does, and its target where it may end
abbrev pub run_writes : Setting → ℕ → Located → Bool → Bool → Location → Bool
run_writes w i s settled may_end at =
    not settled && (lie_over w i (outputs_of_kind (kind_of s)) at || (may_end && lie_over w i (target_of_kind (kind_of s)) at))

-- a `reset` that is still to be tested may begin its body anew
abbrev pub anew : Setting → ℕ → Located → Phase → Location → Bool
anew w i s Check at = is_reset (kind_of s) && surface_over w i s at
anew w i s Body at = false

abbrev mutual
  -- whether the tree, which stands in the instance, may still write something in this tick that overlaps the home
  pub may_write : Setting → ℕ → Control → Location → Bool
  may_write w i Nil at = false
  may_write w i (Wait s) at = false
  may_write w i (Test s) at = false
  may_write w i (Idle items) at = false
  may_write w i (Do s) at = surface_over w i s at
  may_write w i (Turn s) at = surface_over w i s at
  may_write w i (Seq c rest) at = may_write w i c at || (may_end c && items_surface w i rest at)
  may_write w i (Par s stood branches) at = any_writes w i branches at
  may_write w i (Guard s phase stood c) at = may_write w i c at || anew w i s phase at
  may_write w i (Run s callee phase stood c) at = run_writes w i s (is_settled (Run s callee phase stood c)) (run_may_end phase (may_end c)) at

  -- whether one of the branches may
  pub any_writes : Setting → ℕ → Branches → Location → Bool
  any_writes w i no_branch at = false
  any_writes w i (branch weak c rest) at = may_write w i c at || any_writes w i rest at

-- ---- meeting

-- whether a tree beside an action may still write what the action reads
abbrev pub meets : Setting → ℕ → Control → Action → Bool
meets w i c a = list_any (may_write w i c) (reads_of w a)

-- whether one of the branches beside an action may still write what the action reads
abbrev pub any_meets : Setting → ℕ → Branches → Action → Bool
any_meets w i branches a = list_any (any_writes w i branches) (reads_of w a)
