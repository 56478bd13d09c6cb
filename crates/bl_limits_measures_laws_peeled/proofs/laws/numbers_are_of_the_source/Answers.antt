use Rattle.bl_limits_measures_laws_peeled.proofs.Numbers.{cells_are, chains_are, instances_are}
use Rattle.bl_limits_measures_laws_peeled.proofs.laws.numbers_are_of_the_source.Goals as goal

pub returns : goal.returns
returns c = record { instances = instances_are; chains = chains_are; cells = cells_are }
