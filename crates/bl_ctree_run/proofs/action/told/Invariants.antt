use Rattle.std.proofs.Common.{◌≡◌, ◌++◌, map, drop}
use Rattle.bl_ctree_run.specs.Running.{action_at}
use Rattle.bl_ctree_enabled.specs.Spots.{spot_of}
use Rattle.bl_ctree_run.proofs.action.told.Given as goal

abbrev pub invariant-loop-point : goal.invariant-loop-point
invariant-loop-point l = l.actions ++ map action_at (map spot_of (drop l.point-index l.found)) ≡ map action_at (map spot_of l.found)
