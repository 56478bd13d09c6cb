use Rattle.std.proofs.Common.{◌≡◌, ◌++◌, map, drop}
use Rattle.bl_tree.specs.Reduce.{joined}
use Rattle.bl_tree.specs.Static.{mentions, part_mentions}
use Rattle.bl_effects.proofs.mentions.+mentions.Given as goal

abbrev pub invariant-exprs-loop-e : goal.invariant-exprs-loop-e
invariant-exprs-loop-e l = l.into ++ joined (map mentions (drop l.e-index l.inputs)) ≡ l.initial.into ++ joined (map mentions l.inputs)

abbrev pub invariant-indices-loop-part : goal.invariant-indices-loop-part
invariant-indices-loop-part l = l.into ++ joined (map part_mentions (drop l.part-index l.part-items)) ≡ l.initial.into
    ++ joined (map part_mentions l.part-items)
