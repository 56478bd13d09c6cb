-- What a tree may still write in this tick, as static paths of the instance in which it stands.
use Rattle.std.specs.Prelude.{Bool, List, [], ◌∷◌, ◌++◌, if◌then◌else◌}
use Rattle.bl_tree.specs.declared.static_path.Static.{Static}
use Rattle.bl_effects.specs.Surface.{surface_of}
use Rattle.bl_ctree.specs.Control.{Control, Branches, Nil, Wait, Test, Idle, Do, Turn, Seq, Par, Guard, Run, no_branch, branch, Phase, Check, Body, is_settled}
use Rattle.bl_ctree.specs.Pending.{is_reset, item_may_end, may_end, outputs_of_kind, run_may_end, target_of_kind}
use Rattle.bl_ctree.specs.Positions.{Item, Begin, Again, Located, kind_of}

-- what a statement that begins can write before it pauses
abbrev pub surface_paths : Located → List Static
surface_paths s = (surface_of s.stmt).writes

-- what an item can write before it pauses: for the test of a loop, what the loop itself can
abbrev pub item_paths : Item → List Static
item_paths (Begin s) = surface_paths s
item_paths (Again s) = surface_paths s

-- the paths that the first item may write and, where the first may end, those of the rest
abbrev pub items_paths : List Item → List Static
items_paths [] = []
items_paths (item ∷ rest) = item_paths item ++ (if item_may_end item then items_paths rest else [])

-- what a `when .. reset` that is still to be tested can write by beginning its body anew
abbrev pub anew_paths : Located → Phase → List Static
anew_paths s Check = if is_reset (kind_of s) then surface_paths s else []
anew_paths s Body = []

-- what a `run` may still write: its outputs until it is settled, and its target where it may end
abbrev pub run_paths : Located → Bool → Bool → List Static
run_paths s settled may_end =
    if settled then [] else (outputs_of_kind (kind_of s) ++ (if may_end then target_of_kind (kind_of s) else []))

abbrev mutual
  -- what the tree may still write in this tick: those of a called activity are the outputs of its `run`
  pub write_paths : Control → List Static
  write_paths Nil = []
  write_paths (Wait s) = []
  write_paths (Test s) = []
  write_paths (Idle items) = []
  write_paths (Do s) = surface_paths s
  write_paths (Turn s) = surface_paths s
  write_paths (Seq c rest) = write_paths c ++ (if may_end c then items_paths rest else [])
  write_paths (Par s stood branches) = all_write_paths branches
  write_paths (Guard s phase stood c) = write_paths c ++ anew_paths s phase
  write_paths (Run s callee phase stood c) = run_paths s (is_settled (Run s callee phase stood c)) (run_may_end phase (may_end c))

  -- what one of the branches may still write
  pub all_write_paths : Branches → List Static
  all_write_paths no_branch = []
  all_write_paths (branch weak c rest) = write_paths c ++ all_write_paths rest
