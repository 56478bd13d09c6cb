use Rattle.std.proofs.Common.{◌≡◌, ◌++◌, map, drop}
use Rattle.bl_effects.specs.Rules.{marked_path}
use Rattle.bl_conflict.proofs.marks.marked_paths.Given as goal

abbrev pub invariant-loop-path : goal.invariant-loop-path
invariant-loop-path l = l.marked ++ map marked_path (drop l.path-index l.paths) ≡ map marked_path l.paths
