use Rattle.std.proofs.Common.{◌≡◌, ◌++◌, drop}
use Rattle.bl_limits_measures.specs.Runs.{units_of}
use Rattle.bl_limits_measures.proofs.runs.units_of.Given as goal

abbrev pub invariant-loop-run : goal.invariant-loop-run
invariant-loop-run l = l.units ++ units_of (drop l.run-index l.runs) ≡ units_of l.runs
