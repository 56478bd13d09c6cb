use Rattle.bl_plant.specs.Kinds.{AreWide}
use Rattle.bl_top_tests.proofs.plants.turns_of.Given as goal

abbrev pub invariant-loop-numbers : goal.invariant-loop-numbers
invariant-loop-numbers l = AreWide l.width l.turns
