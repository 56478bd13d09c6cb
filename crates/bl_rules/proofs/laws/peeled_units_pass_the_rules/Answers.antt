use Rattle.bl_rules.proofs.Peeled.{peeled_pass_graphs, peeled_pass_units}
use Rattle.bl_rules.proofs.laws.peeled_units_pass_the_rules.Goals as goal

pub returns-clause-units : goal.returns-clause-units
returns-clause-units c = peeled_pass_units c.units_are_peeled.ensures c.peeled_units_keep_the_rules.ensures.passes

pub returns-clause-graphs : goal.returns-clause-graphs
returns-clause-graphs c = peeled_pass_graphs c.peeled_units_are_judged.ensures
