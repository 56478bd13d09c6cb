use Rattle.bl_cause_trees.proofs.Deciding.{peeled_are_there}
use Rattle.bl_cause_trees.proofs.Peeled.{peeled_are_one}
use Rattle.bl_cause_trees.proofs.laws.units_are_peeled_in_one_way.Goals as goal

pub returns-clause-there : goal.returns-clause-there
returns-clause-there c = peeled_are_there c.bodies_have_graphs.ensures

pub returns-clause-one : goal.returns-clause-one
returns-clause-one c = peeled_are_one
