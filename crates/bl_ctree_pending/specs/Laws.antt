-- What holds of every tree, in every instance.
use Rattle.std.specs.Prelude.{ℕ, ◌≡◌}
use Rattle.bl_ctree.specs.Control.{Control}
use Rattle.bl_ctree.specs.Instances.{Setting}
use Rattle.bl_ctree.specs.Pending.{lie_over, may_write}
use Rattle.bl_ctree.specs.Store.{Location}
use Rattle.bl_ctree_pending.specs.Writes.{write_paths}

-- a tree may write what overlaps a location iff one of its write paths has an overlapping home
abbrev pub PathsTell : Type 0
PathsTell = (w : Setting) (i : ℕ) (at : Location) (c : Control) → lie_over w i (write_paths c) at ≡ may_write w i c at
