use Rattle.std.proofs.Common.{◌≡◌, ◌++◌, map, take}
use Rattle.bl_tree.specs.Static.{static_of}
use Rattle.bl_effects.proofs.mentions.statics.Given as goal

abbrev pub invariant-loop-path : goal.invariant-loop-path
invariant-loop-path l = l.into ≡ l.initial.into ++ map static_of (take l.path-index l.paths)
