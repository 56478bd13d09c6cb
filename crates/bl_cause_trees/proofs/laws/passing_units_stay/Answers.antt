use Rattle.bl_cause_trees.proofs.Peeled.{passing_units_stay}
use Rattle.bl_cause_trees.proofs.laws.passing_units_stay.Goals as goal

pub returns : goal.returns
returns c = passing_units_stay
