use Rattle.std.proofs.Common.{◌≡◌, ◌++◌, map, drop}
use Rattle.bl_tree.specs.Reduce.{joined}
use Rattle.bl_tree.specs.Static.{path_mentions}
use Rattle.bl_effects.proofs.mentions.readings.Given as goal

abbrev pub invariant-loop-path : goal.invariant-loop-path
invariant-loop-path l = l.into ++ joined (map path_mentions (drop l.path-index l.outputs)) ≡ l.initial.into ++ joined (map path_mentions l.outputs)
