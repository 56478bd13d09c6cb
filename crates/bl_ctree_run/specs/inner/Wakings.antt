-- Trees that are woken where they lie.
use Rattle.std.specs.Prelude.{Bool, true, false, not, ◌&&◌}
use Rattle.bl_ctree.specs.Control.{Control, Branches, Nil, Wait, Test, Idle, Do, Turn, Seq, Par, Guard, Run, no_branch, branch, is_nil, woken}
use Rattle.bl_ctree.specs.Nodes.{Seen}
use Rattle.bl_ctree.specs.Positions.{none_left}

abbrev mutual
  -- nothing begins in the tree as it is woken
  pub is_light : Control → Bool
  is_light Nil = true
  is_light (Wait s) = true
  is_light (Test s) = true
  is_light (Idle items) = false
  is_light (Do s) = true
  is_light (Turn s) = true
  is_light (Seq c rest) = not (is_nil c) && (not (none_left rest) && is_light c)
  is_light (Par s stood branches) = are_light branches
  is_light (Guard s phase stood c) = is_light c
  is_light (Run s callee phase stood c) = is_light c

  -- nothing begins in any of the branches as they are woken
  pub are_light : Branches → Bool
  are_light no_branch = true
  are_light (branch weak c rest) = is_light c && are_light rest

-- a branch as it is woken
abbrev pub wake_seen : Seen → Seen
wake_seen b = record { weak = b.weak; tree = woken b.tree }
