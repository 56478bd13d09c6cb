use Rattle.std.proofs.Common.{◌≡◌, ◌≤◌, length, drop}
use Rattle.bl_simplify_walk.proofs.same.fronts_of.Given as goal

abbrev pub invariant-loop-first : goal.invariant-loop-first
invariant-loop-first l = record {
  one : l.first ≤ length l.a;
  other : l.second ≤ length l.b;
  same : drop l.first l.a ≡ drop l.second l.b;
}

abbrev pub decreases-loop-first : goal.decreases-loop-first
decreases-loop-first l = l.first
