use Rattle.std.proofs.Common.{◌≡◌, ◌≤◌, drop, length}
use Rattle.bl_emit_acts.specs.Expressions.{same_steps}
use Rattle.bl_emit_acts.proofs.decided.same_steps.Given as goal

abbrev pub invariant-loop-k : goal.invariant-loop-k
invariant-loop-k l = record {
  lengths : length l.ps ≡ length l.qs;
  end : l.k-end ≡ length l.ps;
  within : l.k ≤ length l.ps;
  same : same_steps (drop l.k l.ps) (drop l.k l.qs) ≡ same_steps l.ps l.qs;
}
