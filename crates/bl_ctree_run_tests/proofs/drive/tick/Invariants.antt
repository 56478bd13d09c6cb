use Rattle.std.proofs.Common.{◌≡◌}
use Rattle.bl_ctree_run.specs.Running.{setting}
use Rattle.bl_ctree_run_tests.proofs.drive.tick.Given as goal

abbrev pub invariant-loop-turn : goal.invariant-loop-turn
invariant-loop-turn l = setting l.tree ≡ setting l.initial.tree
