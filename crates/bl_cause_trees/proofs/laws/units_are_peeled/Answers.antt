use Rattle.bl_cause_trees.proofs.Peeled.{units_are_peeled}
use Rattle.bl_cause_trees.proofs.laws.units_are_peeled.Goals as goal

pub returns : goal.returns
returns c = units_are_peeled
