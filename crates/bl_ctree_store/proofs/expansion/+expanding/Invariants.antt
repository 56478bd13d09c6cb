use Rattle.std.proofs.Common.{◌≡◌, ◌+◌, ◌*◌, ◌<◌, ◌++◌, ◌∷◌, length, drop, None}
use Rattle.bl_ctree.specs.Instances.{expanded, instances_below}
use Rattle.bl_ctree_store.proofs.expansion.+expanding.Given as goal

abbrev pub decreases-expanded : goal.decreases-expanded
decreases-expanded l = 2 * l.longest

abbrev pub decreases-from_unit : goal.decreases-from_unit
decreases-from_unit l = 2 * l.longest + 1

abbrev pub invariant-from_unit-loop-run : goal.invariant-from_unit-loop-run
invariant-from_unit-loop-run l = record {
  below : l.all ++ instances_below (expanded l.units l.longest) (length l.all) (drop l.run-index l.run-items)
      ≡ record { unit = l.k; depth = 0; origin = None } ∷ instances_below (expanded l.units l.longest) 1 l.run-items;
  some : 0 < length l.all;
}
