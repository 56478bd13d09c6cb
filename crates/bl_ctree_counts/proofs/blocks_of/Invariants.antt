use Rattle.std.proofs.Common.{◌≡◌, length}
use Rattle.bl_ctree_counts.specs.Counts.{HasSums}
use Rattle.bl_ctree_counts.proofs.blocks_of.Given as goal

abbrev pub invariant-loop-b : goal.invariant-loop-b
invariant-loop-b l = HasSums l.made l.each × (length l.made ≡ l.b)
