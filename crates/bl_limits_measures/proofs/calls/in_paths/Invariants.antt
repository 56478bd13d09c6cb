use Rattle.std.proofs.Common.{◌≡◌, ◌++◌, map, drop}
use Rattle.bl_tree.specs.Reduce.{joined}
use Rattle.bl_limits_measures.specs.Calls.{calls_in_path}
use Rattle.bl_limits_measures.proofs.calls.in_paths.Given as goal

abbrev pub invariant-loop-path : goal.invariant-loop-path
invariant-loop-path l = l.into ++ joined (map calls_in_path (drop l.path-index l.paths)) ≡ l.initial.into ++ joined (map calls_in_path l.paths)
