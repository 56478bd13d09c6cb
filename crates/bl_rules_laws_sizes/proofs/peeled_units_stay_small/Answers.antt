use Rattle.bl_rules_laws_sizes.proofs.Small.{peeled_are_small}
use Rattle.bl_rules_laws_sizes.proofs.peeled_units_stay_small.Goals as goal

pub returns : goal.returns
returns c = peeled_are_small
