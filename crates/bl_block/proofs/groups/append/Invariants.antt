use Rattle.std.proofs.Common.{◌≡◌, ◌++◌, drop}
use Rattle.bl_block.proofs.groups.append.Given as goal

abbrev pub invariant-loop-node : goal.invariant-loop-node
invariant-loop-node l = l.nodes ++ drop l.node-index l.block ≡ l.fn.nodes ++ l.block
