use Rattle.std.proofs.Common.{◌≡◌, ◌+◌, ◌<◌, ◌^◌, decimal, length}
use Rattle.bl_rows.proofs.written.digits_of.Given as goal

abbrev pub decreases-fours : goal.decreases-fours
decreases-fours l = l.left

abbrev pub invariant-fours : goal.invariant-fours
invariant-fours l = record {
  all : l.count + length (decimal l.left) ≡ length (decimal l.n);
  small : l.left < 2 ^ 64;
}
