use Rattle.std.proofs.Common.{◌≡◌, take}
use Rattle.bl_cause.proofs.listed.copied.Given as goal

abbrev pub invariant-loop-node : goal.invariant-loop-node
invariant-loop-node l = l.made ≡ take l.node-index l.nodes
