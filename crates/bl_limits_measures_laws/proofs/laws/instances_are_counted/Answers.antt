use Rattle.bl_limits_measures_laws.proofs.InstanceLemmas.{counted}
use Rattle.bl_limits_measures_laws.proofs.laws.instances_are_counted.Goals as goal

pub returns : goal.returns
returns c = counted c.units_add_up.ensures.instances c.missing_units_count_nothing.ensures
