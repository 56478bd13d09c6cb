use Rattle.std.proofs.Common.{◌≡◌, length}
use Rattle.bl_ctree_run_tests.proofs.drive.row.Given as goal

abbrev pub invariant-loop-k : goal.invariant-loop-k
invariant-loop-k l = length l.row ≡ l.few
