use Rattle.std.proofs.Common.{◌≡◌, ◌++◌, [], drop}
use Rattle.bl_block.specs.inner.Groups.{groups_from}
use Rattle.bl_block.specs.inner.Ways.{follows}
use Rattle.bl_block.proofs.groups.groups_from.Given as goal

abbrev pub invariant-loop-node : goal.invariant-loop-node
invariant-loop-node l =
    l.blocks ++ groups_from (follows l.ways) l.block l.last (drop l.node-index l.rest) ≡ groups_from (follows l.ways) [] l.first l.rest
