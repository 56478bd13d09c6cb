use Rattle.std.proofs.Common.{Bool, length}
use Rattle.bl_cause.specs.inner.Found.{InGraphs}
use Rattle.bl_cause.specs.inner.Lists.{Candidates, Within}
use Rattle.bl_cause.proofs.first.first_of.Given as goal

abbrev pub invariant-loop-k : goal.invariant-loop-k
invariant-loop-k l = record {
  within : Within (length l.rows) l.left.items;
  candidates : InGraphs l.rows (λ edges. (by_data : Bool) → Candidates edges by_data l.fn.left.items → Candidates edges by_data l.left.items);
}

abbrev pub decreases-loop-k : goal.decreases-loop-k
decreases-loop-k l = length l.left.items
