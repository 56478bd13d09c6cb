use Rattle.std.proofs.Common.{◌≡◌, ◌++◌, map, drop}
use Rattle.bl_tree.specs.Reduce.{joined}
use Rattle.bl_machine_prevs.specs.Prevs.{prevs_in_path}
use Rattle.bl_emit_tables.proofs.prevs.in_paths.Given as goal

abbrev pub invariant-loop-path : goal.invariant-loop-path
invariant-loop-path l = l.into ++ joined (map prevs_in_path (drop l.path-index l.paths)) ≡ l.initial.into ++ joined (map prevs_in_path l.paths)
