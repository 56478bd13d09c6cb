use Rattle.std.proofs.Common.{◌≡◌, ◌++◌, map, drop}
use Rattle.bl_tree.specs.Apart.{roots_in_path}
use Rattle.bl_tree.specs.Reduce.{joined}
use Rattle.bl_ctree_store.proofs.naming.paths.Given as goal

abbrev pub invariant-loop-at : goal.invariant-loop-at
invariant-loop-at l = l.into ++ joined (map roots_in_path (drop l.at-index l.outputs)) ≡ l.initial.into ++ joined (map roots_in_path l.outputs)
