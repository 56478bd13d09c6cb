use Rattle.std.proofs.Common.{◌≡◌, ◌++◌, drop}
use Rattle.bl_tree.specs.Reduce.{joined}
use Rattle.bl_block.proofs.groups.nodes_of.Given as goal

abbrev pub invariant-loop-block : goal.invariant-loop-block
invariant-loop-block l = l.nodes ++ joined (drop l.block-index l.blocks) ≡ joined l.blocks
