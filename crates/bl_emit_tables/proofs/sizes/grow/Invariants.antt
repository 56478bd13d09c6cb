use Rattle.std.proofs.Common.{◌≡◌, ◌-◌, suc, length}
use Rattle.bl_emit_tables.specs.Sizes.{grown}
use Rattle.bl_emit_tables.proofs.sizes.grow.Given as goal

abbrev pub invariant-loop-counts : goal.invariant-loop-counts
invariant-loop-counts l = grown 0 (suc l.at) l.counts ≡ grown 0 (suc l.at) l.initial.counts

abbrev pub decreases-loop-counts : goal.decreases-loop-counts
decreases-loop-counts l = suc l.at - length l.counts
