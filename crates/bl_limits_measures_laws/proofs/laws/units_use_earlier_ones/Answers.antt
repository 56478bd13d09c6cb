use Rattle.bl_limits_measures_laws.proofs.EarlierLemmas.{units_use_earlier}
use Rattle.bl_limits_measures_laws.proofs.laws.units_use_earlier_ones.Goals as goal

pub returns : goal.returns
returns c = units_use_earlier
