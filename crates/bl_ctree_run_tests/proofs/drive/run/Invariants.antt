use Rattle.std.proofs.Common.{◌≡◌}
use Rattle.bl_ctree_run.specs.Outputs.{count_of_outputs}
use Rattle.bl_ctree_run.specs.Running.{setting}
use Rattle.bl_ctree_run_tests.proofs.drive.run.Given as goal

abbrev pub invariant-loop-numbers : goal.invariant-loop-numbers
invariant-loop-numbers l = l.count ≡ count_of_outputs (setting l.tree)
