use Rattle.std.proofs.Common.{◌≡◌, ◌++◌, map, drop}
use Rattle.bl_tree.specs.Static.{static_of}
use Rattle.bl_ctree.proofs.paths.statics_of.Given as goal

abbrev pub invariant-loop-path : goal.invariant-loop-path
invariant-loop-path l = l.statics ++ map static_of (drop l.path-index l.paths) ≡ map static_of l.paths
