-- Branches of the code as they are woken, seen as a list.
use Rattle.bl_ctree.specs.Control.{woken}
use Rattle.bl_ctree.specs.Nodes.{Seen}

-- a branch as it is woken
abbrev pub wake_seen : Seen → Seen
wake_seen b = record { weak = b.weak; tree = woken b.tree }
