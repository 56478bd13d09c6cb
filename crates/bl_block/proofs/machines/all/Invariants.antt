use Rattle.std.proofs.Common.{take}
use Rattle.bl_block.specs.inner.Merging.{EachMerges}
use Rattle.bl_block.proofs.machines.all.Given as goal

abbrev pub invariant-loop-at : goal.invariant-loop-at
invariant-loop-at l = EachMerges (take l.at l.activities) (take l.at l.graphs) l.made
