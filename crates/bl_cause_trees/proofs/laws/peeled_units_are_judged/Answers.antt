use Rattle.bl_cause_trees.proofs.Peeled.{peeled_units_are_judged}
use Rattle.bl_cause_trees.proofs.laws.peeled_units_are_judged.Goals as goal

pub returns : goal.returns
returns c = peeled_units_are_judged
